-- The neighbours of each item, item by item.
use Rattle.std.specs.Prelude.{ℕ, ◌<◌, ◌↔◌, List, [], map, slice_index_or, Contains, Vec}
use Rattle.std.specs.List.Sorted.{IsNonDecreasing}
use Rattle.std.specs.declared.alloc.Global.{Global}

-- the rows as plain lists
abbrev pub lists : List (Vec ℕ Global) → List (List ℕ)
lists rows = map (λ row. row.items) rows

-- the row of the item, and nothing past the last item
abbrev pub row_at : List (List ℕ) → ℕ → List ℕ
row_at rows item = slice_index_or rows item []

-- the row of each item has its neighbours and no others
abbrev pub HaveEdges : List (List ℕ) → List (ℕ × ℕ) → Type 0
HaveEdges rows edges = (item place : ℕ)
    → Contains (row_at rows item) place ↔ Contains edges (item, place)

-- each row rises
abbrev pub RowsRise : List (List ℕ) → Type 0
RowsRise rows = (item : ℕ) → IsNonDecreasing (row_at rows item)

-- the rows have the same places
abbrev pub HaveSame : List (List ℕ) → List (List ℕ) → Type 0
HaveSame old new = (item place : ℕ)
    → Contains (row_at new item) place ↔ Contains (row_at old item) place

-- the places of each row are below the number
abbrev pub AreInside : List (List ℕ) → ℕ → Type 0
AreInside rows count = (item place : ℕ) → Contains (row_at rows item) place → place < count
