-- Items that are given, one after another, the least place that they can have.
use Rattle.std.specs.Prelude.{ℕ, ◌≡◌, ◌<◌, ◌⊎◌, Bool, List, length, Option, Some, slice_index, Contains}
use Rattle.hall_match.specs.Holding.{given_at, IsPartialMatching}
use Rattle.hall_match.specs.Rows.{row_at}
use Rattle.hall_match.specs.Search.{Instance, IsSeen, IsClosed}

-- the item is given a place
abbrev pub IsGiven : List (Option ℕ) → ℕ → Type 0
IsGiven given item = (place : ℕ) × (given_at given item ≡ Some place)

-- the item is given a place, with the lesser ones of its row closed; the other items still have places
pub record Settles (s : Instance) (new : List (Option ℕ)) : Type 0 where
  pub whole : length new ≡ length s.given
  pub held : IsPartialMatching s.capacities s.rows new
  pub place : ℕ
  pub here : given_at new s.item ≡ Some place
  pub before : (item : ℕ) → item < s.item → given_at new item ≡ given_at s.given item
  pub after : (item : ℕ) → s.item < item → IsGiven s.given item → IsGiven new item
  pub closed : List Bool
  pub is_closed : IsClosed s closed
  pub least : (lesser : ℕ) → Contains (row_at s.rows s.item) lesser → lesser < place
      → IsSeen closed lesser

-- the items below the number are given what the list has
abbrev pub AgreesTo : List (Option ℕ) → ℕ → List ℕ → Type 0
AgreesTo given high other = (item : ℕ) → item < high
    → given_at given item ≡ Some (slice_index other item)

-- so far items are given what the list has, or the first one that isn't is given a lesser place
abbrev pub IsUpTo : List (Option ℕ) → ℕ → List ℕ → Type 0
IsUpTo given high other = AgreesTo given high other ⊎
    ((item place : ℕ) × (item < high) × AgreesTo given item other ×
    (given_at given item ≡ Some place) × (place < slice_index other item))
