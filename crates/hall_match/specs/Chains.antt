-- The items that are given each place, as chains that go from the last item to the first.
use Rattle.std.specs.Prelude.{ℕ, ◌≡◌, ◌+◌, ◌<◌, ◌≤◌, List, length, Option, Some, None, slice_index_or}
use Rattle.hall_match.specs.Holding.{given_at}

-- no item from the low one up to the high one is given the place
abbrev pub NoUser : List (Option ℕ) → ℕ → ℕ → ℕ → Type 0
NoUser given place low high = (item : ℕ) → low ≤ item → item < high
    → given_at given item ≡ Some place → ⊥

-- the last item from the low one up to the high one that is given the place, if there is one
abbrev pub IsLastUser : List (Option ℕ) → ℕ → ℕ → ℕ → Option ℕ → Type 0
IsLastUser given place low high None = NoUser given place low high
IsLastUser given place low high (Some item) = (low ≤ item) × (item < high) ×
    (given_at given item ≡ Some place) × NoUser given place (item + 1) high

-- `ends` has the last user of each place, and `links` for each item the user before it
pub record AreChains (given : List (Option ℕ)) (low high : ℕ)
    (ends links : List (Option ℕ)) : Type 0 where
  pub last : (place : ℕ) → place < length ends
      → IsLastUser given place low high (slice_index_or ends place None)
  pub before : (item place : ℕ) → low ≤ item → item < high → given_at given item ≡ Some place
      → IsLastUser given place low item (slice_index_or links item None)
