-- Which candidates of a round stay.
use Rattle.std.specs.Prelude.{ℕ, ◌≡◌, ◌<◌, ◌⊎◌, Bool, List, length, slice_get, Some}
use Rattle.list_words.specs.Lists.{Each, IsOneOf}
use Rattle.list_words.specs.Orders.{AreRising}
use Rattle.arbac_laws.specs.Needs.{Need, Covers, IsCovered}
use Rattle.arbac_laws.specs.Orders.{requirement_before}
use Rattle.arbac_laws.specs.Recorded.{Entry}

-- the candidate at the first place covers the one at the second, and is a different requirement or stands before it
pub record Beats (candidates : List Entry) (i j : ℕ) : Type 0 where
  pub by : Entry
  pub by_is : slice_get candidates i ≡ Some by
  pub beaten : Entry
  pub beaten_is : slice_get candidates j ≡ Some beaten
  pub covers : Covers by.needs beaten.needs
  pub apart : ¬ (by.needs ≡ beaten.needs) ⊎ (i < j)

-- the candidate at the place is covered by none of what was known before the round, and no candidate beats it
pub record IsUnbeaten (known : List (List Need)) (candidates : List Entry) (place : ℕ) (entry : Entry) : Type 0 where
  pub at : slice_get candidates place ≡ Some entry
  pub new : ¬ IsCovered known entry.needs
  pub unbeaten : (other : ℕ) → ¬ Beats candidates other place

-- entries by the order of their requirements
abbrev pub entry_before : Entry → Entry → Bool
entry_before a b = requirement_before a.needs b.needs

-- the unbeaten candidates, in the order of requirements
pub record AreUnbeaten (known : List (List Need)) (candidates list : List Entry) : Type 0 where
  pub rising : AreRising entry_before list
  pub each : Each (λ entry. (place : ℕ) × IsUnbeaten known candidates place entry) list
  pub all : (place : ℕ) (entry : Entry) → IsUnbeaten known candidates place entry → IsOneOf list entry

-- some of the candidates, in their order: each stands where the map says, and the map rises
pub record ArePart (some candidates : List Entry) : Type 0 where
  pub to : ℕ → ℕ
  pub rises : (i j : ℕ) → i < j → j < length some → to i < to j
  pub each : (i : ℕ) (entry : Entry) → slice_get some i ≡ Some entry → slice_get candidates (to i) ≡ Some entry

-- what was left out was covered by what was known, or is beaten by a candidate, itself left out or not
abbrev pub MayLeaveOut : List (List Need) → (candidates some : List Entry) → ArePart some candidates → Type 0
MayLeaveOut known candidates some part = (place : ℕ) (entry : Entry) → slice_get candidates place ≡ Some entry →
    ((i : ℕ) × (i < length some) × (part.to i ≡ place)) ⊎ (IsCovered known entry.needs ⊎ ((other : ℕ) × Beats candidates other place))
