-- Items and places that go together by a relation.
use Rattle.std.specs.Prelude.{ℕ, ◌≡◌, ◌<◌, ◌⊎◌, ◌↔◌, List, length, Contains, slice_get, slice_index, Some}
use Rattle.hall_match.specs.Matchings.{IsBefore}

-- just the pairs of an item and a place below these numbers that go together
abbrev pub AreJoined : (ℕ → ℕ → Type 0) → ℕ → ℕ → List (ℕ × ℕ) → Type 0
AreJoined Joins items places pairs = (k u : ℕ) → Contains pairs (k, u) ↔ ((k < items) × (u < places) × Joins k u)

-- what holds of a list of just these pairs
abbrev pub OfPairs : (ℕ → ℕ → Type 0) → ℕ → ℕ → (List (ℕ × ℕ) → Type 0) → Type 0
OfPairs Joins items places P = (pairs : List (ℕ × ℕ)) × AreJoined Joins items places pairs × P pairs

-- a different place for each item, with which it goes
pub record IsTransversal (Joins : ℕ → ℕ → Type 0) (left places : ℕ) (list : List ℕ) : Type 0 where
  pub long : length list ≡ left
  pub apart : (i j : ℕ) → i < length list → j < length list → slice_index list i ≡ slice_index list j → i ≡ j
  pub each : (item : ℕ) → item < left → (slice_index list item < places) × Joins item (slice_index list item)

-- a transversal that is before every other one
pub record IsLeastTransversal (Joins : ℕ → ℕ → Type 0) (left places : ℕ) (list : List ℕ) : Type 0 where
  pub transversal : IsTransversal Joins left places list
  pub least : (other : List ℕ) → IsTransversal Joins left places other → (other ≡ list) ⊎ IsBefore list other

-- the items at the two places of these lists stand so
abbrev pub JoinsAt : {A B : Type 0} → (A → B → Type 0) → List A → List B → ℕ → ℕ → Type 0
JoinsAt {A} {B} R xs ys k u = (x : A) × (y : B) × (slice_get xs k ≡ Some x) × (slice_get ys u ≡ Some y) × R x y
