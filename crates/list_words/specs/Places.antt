-- Injective maps as lists of places, and why there is none.
use Rattle.std.specs.Prelude.{ℕ, ◌≡◌, ◌<◌, List, length, get_or, slice_get, Some}
use Rattle.list_words.specs.Lists.{Each, Some_of, AreDifferent}

-- the places, one for each item of the first list, are different, and each item stands to the item
-- of the second list at its place as R says
pub record ArePlaces {A B : Type 0} (R : A → B → Type 0) (xs : List A) (ys : List B) (places : List ℕ) : Type 0 where
  pub long : length places ≡ length xs
  pub apart : (i j : ℕ) → i < length places → j < length places → get_or places i 0 ≡ get_or places j 0 → i ≡ j
  pub each : (i : ℕ) (x : A) → slice_get xs i ≡ Some x → (y : B) × (slice_get ys (get_or places i 0) ≡ Some y) × R x y

-- the item at the place stands so to items at these places alone
abbrev pub OnlyAmong : {A B : Type 0} → (A → B → Type 0) → List A → List B → List ℕ → ℕ → Type 0
OnlyAmong {A} {B} R xs ys among i =
    (x : A) (j : ℕ) (y : B) → slice_get xs i ≡ Some x → slice_get ys j ≡ Some y → R x y
    → Some_of (λ k. k ≡ j) among

-- different items of the first list that stand so to fewer items of the second than they are
pub record AreDeficient {A B : Type 0} (R : A → B → Type 0) (xs : List A) (ys : List B) (items among : List ℕ) : Type 0 where
  pub different : AreDifferent items
  pub within : Each (λ i. i < length xs) items
  pub only : Each (OnlyAmong R xs ys among) items
  pub fewer : length among < length items
