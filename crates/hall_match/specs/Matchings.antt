-- Matchings with capacities: items are given neighbouring places, none more often than its capacity.
use Rattle.std.specs.Prelude.{ℕ, ◌≡◌, ◌<◌, ◌≤◌, ◌↔◌, ◌==◌, ◌⊎◌, List, length, take, slice_index, slice_index_or, Option}
use Rattle.std.specs.Prelude.{Some, None, unwrap_or, count_by, sum_by, Contains, All}
use Rattle.std.specs.List.Sorted.{IsStrictlyIncreasing}

-- each edge leads from an item below the number to a place that has a capacity
abbrev pub ArePairsWithin : ℕ → List (Option ℕ) → List (ℕ × ℕ) → Type 0
ArePairsWithin left capacities edges = All (λ edge. (edge.0 < left) × (edge.1 < length capacities)) edges

-- how many items the place may be given to; none is no limit
abbrev pub capacity_at : List (Option ℕ) → ℕ → Option ℕ
capacity_at capacities place = slice_index_or capacities place None

-- how many items of the list are given the place
abbrev pub uses : ℕ → List ℕ → ℕ
uses place list = count_by (λ given. given == place) list

-- the list has a place for each item, a neighbour of it, and no limited place more often than its capacity
pub record IsMatching (left : ℕ) (capacities : List (Option ℕ)) (edges : List (ℕ × ℕ))
    (list : List ℕ) : Type 0 where
  pub whole : length list ≡ left
  pub neighbours : (item : ℕ) → item < left → Contains edges (item, slice_index list item)
  pub within : (place most : ℕ) → capacity_at capacities place ≡ Some most → uses place list ≤ most

-- at the first item where the two lists differ, the first list has the lesser place
pub record IsBefore (first second : List ℕ) : Type 0 where
  pub item : ℕ
  pub inside : item < length first
  pub same : take item first ≡ take item second
  pub less : slice_index first item < slice_index second item

-- a matching that is before every other one
pub record IsLeast (left : ℕ) (capacities : List (Option ℕ)) (edges : List (ℕ × ℕ))
    (list : List ℕ) : Type 0 where
  pub matching : IsMatching left capacities edges list
  pub least : (other : List ℕ) → IsMatching left capacities edges other
      → (other ≡ list) ⊎ IsBefore list other

-- some item of the list has an edge to the place
abbrev pub IsNeighbour : List (ℕ × ℕ) → List ℕ → ℕ → Type 0
IsNeighbour edges items place = (item : ℕ) × Contains items item × Contains edges (item, place)

-- the capacities of the places together, each taken as limited
abbrev pub capacity_of : List (Option ℕ) → List ℕ → ℕ
capacity_of capacities places = sum_by (λ place. unwrap_or (capacity_at capacities place) 0) places

-- a deficient set: rising items that are more than their neighbours' capacities together, none of them
-- unlimited
pub record IsDeficient (left : ℕ) (capacities : List (Option ℕ)) (edges : List (ℕ × ℕ))
    (items : List ℕ) : Type 0 where
  pub rising : IsStrictlyIncreasing items
  pub below : All (λ item. item < left) items
  pub places : List ℕ
  pub once : IsStrictlyIncreasing places
  pub neighbours : (place : ℕ) → Contains places place ↔ IsNeighbour edges items place
  pub limited : (place : ℕ) → Contains places place
      → (most : ℕ) × (capacity_at capacities place ≡ Some most)
  pub fewer : capacity_of capacities places < length items
