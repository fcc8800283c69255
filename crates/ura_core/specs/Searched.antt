-- How far a list is searched.
use Rattle.std.specs.Prelude.{ℕ, ◌≡◌, ◌<◌, List, slice_get, Some}

-- P holds of no item before the place
abbrev pub HasNoneBefore : {A : Type 0} → (A → Type 0) → List A → ℕ → Type 0
HasNoneBefore {A} P xs n = (k : ℕ) (x : A) → k < n → slice_get xs k ≡ Some x → ¬ P x
