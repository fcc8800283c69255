-- What holds of items of a list: of each, of some, of the first; and lists whose items differ.
use Rattle.std.specs.Prelude.{ℕ, ◌≡◌, ◌<◌, List, [], ◌∷◌, ◌⊎◌, slice_get, Some}

-- P holds of each item
abbrev pub Each : {A : Type 0} → (A → Type 0) → List A → Type 0
Each P [] = Unit {0}
Each P (x ∷ xs) = P x × Each P xs

-- P holds of some item
abbrev pub Some_of : {A : Type 0} → (A → Type 0) → List A → Type 0
Some_of P [] = ⊥
Some_of P (x ∷ xs) = P x ⊎ Some_of P xs

-- the item stands at a place of the list
abbrev pub IsOneOf : {A : Type 0} → List A → A → Type 0
IsOneOf xs x = (place : ℕ) × (slice_get xs place ≡ Some x)

-- the item at the place is the first of which P holds
pub record IsFirst {A : Type 0} (P : A → Type 0) (xs : List A) (place : ℕ) : Type 0 where
  pub item : A
  pub at : slice_get xs place ≡ Some item
  pub holds : P item
  pub none_before : (k : ℕ) (x : A) → k < place → slice_get xs k ≡ Some x → ¬ P x

-- no item stands at two places
abbrev pub AreDifferent : {A : Type 0} → List A → Type 0
AreDifferent {A} xs = (i j : ℕ) (x : A) → slice_get xs i ≡ Some x → slice_get xs j ≡ Some x → i ≡ j
