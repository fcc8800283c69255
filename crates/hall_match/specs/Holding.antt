-- A partial matching: what each item is given so far, a place or none.
use Rattle.std.specs.Prelude.{ℕ, ◌≡◌, ◌==◌, ◌≤◌, Bool, true, false, nat_lt, List, Option, Some, None, slice_index_or, count_by, Contains}
use Rattle.hall_match.specs.Matchings.{capacity_at}
use Rattle.hall_match.specs.Rows.{row_at}

-- whether it is given the place
abbrev pub is_at : ℕ → Option ℕ → Bool
is_at place None = false
is_at place (Some given) = given == place

-- what the item is given; past the last item there is none
abbrev pub given_at : List (Option ℕ) → ℕ → Option ℕ
given_at given item = slice_index_or given item None

-- how many items are given the place
abbrev pub holder_count : ℕ → List (Option ℕ) → ℕ
holder_count place given = count_by (is_at place) given

-- whether a place of this capacity may be given to one more item than it is
abbrev pub has_more : Option ℕ → ℕ → Bool
has_more None used = true
has_more (Some most) used = nat_lt used most

-- whether the place may be given to one more item
abbrev pub has_room : List (Option ℕ) → List (Option ℕ) → ℕ → Bool
has_room capacities given place = has_more (capacity_at capacities place) (holder_count place given)

-- a partial matching: items are given neighbours, and no limited place more often than its capacity
pub record IsPartialMatching (capacities : List (Option ℕ)) (rows : List (List ℕ))
    (given : List (Option ℕ)) : Type 0 where
  pub neighbours : (item place : ℕ) → given_at given item ≡ Some place
      → Contains (row_at rows item) place
  pub within : (place most : ℕ) → capacity_at capacities place ≡ Some most
      → holder_count place given ≤ most
