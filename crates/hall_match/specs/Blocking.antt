-- The deficient set that a failed search leaves: the item that finds no place, and the users of what is closed.
use Rattle.std.specs.Prelude.{ℕ, ◌≡◌, ◌+◌, ◌<◌, ◌↔◌, ◌==◌, ◌||◌, Bool, true, false, List, length, Option, Some, None}
use Rattle.std.specs.Prelude.{slice_index_or, count_by, Contains, All}
use Rattle.std.specs.List.Sorted.{IsStrictlyIncreasing}
use Rattle.hall_match.specs.Holding.{given_at}

-- whether it is given a seen place
abbrev pub is_seen_at : List Bool → Option ℕ → Bool
is_seen_at seen None = false
is_seen_at seen (Some place) = slice_index_or seen place false

-- whether it is the item that finds no place, or is given a seen one
abbrev pub is_blocked : List (Option ℕ) → List Bool → ℕ → ℕ → Bool
is_blocked given seen item i = (i == item) || is_seen_at seen (given_at given i)

-- the item that finds no place and those that are given a seen one, rising
pub record AreBlocked (given : List (Option ℕ)) (seen : List Bool) (item : ℕ)
    (items : List ℕ) : Type 0 where
  pub rising : IsStrictlyIncreasing items
  pub below : All (λ i. i < length given) items
  pub exact : (i : ℕ)
      → Contains items i ↔ ((i < length given) × (is_blocked given seen item i ≡ true))
  pub count : length items ≡ count_by (is_seen_at seen) given + 1
