-- The order of lists that an order of their items gives, and lists that keep to an order.
use Rattle.std.specs.Prelude.{◌≡◌, ◌⊎◌, Bool, true, false, ◌||◌, ◌&&◌, not, List, [], ◌∷◌}
use Rattle.list_words.specs.Lists.{Each}

-- a list comes before another at the first place where they differ, or as its front
abbrev pub list_before : {A : Type 0} → (A → A → Bool) → List A → List A → Bool
list_before before [] [] = false
list_before before [] (y ∷ ys) = true
list_before before (x ∷ xs) [] = false
list_before before (x ∷ xs) (y ∷ ys) = before x y || (not (before y x) && list_before before xs ys)

-- nothing is before itself, and what is before a second that is before a third is before the third
pub record IsStrictOrder {A : Type 0} (before : A → A → Bool) : Type 0 where
  pub never : (x : A) → ¬ (before x x ≡ true)
  pub through : (x y z : A) → before x y ≡ true → before y z ≡ true → before x z ≡ true

-- nothing is before itself, what is before a second that is before a third is before the third, and
-- of two different ones one is before the other
pub record IsTotalOrder {A : Type 0} (before : A → A → Bool) : Type 0 where
  pub never : (x : A) → ¬ (before x x ≡ true)
  pub through : (x y z : A) → before x y ≡ true → before y z ≡ true → before x z ≡ true
  pub total : (x y : A) → (before x y ≡ true) ⊎ ((x ≡ y) ⊎ (before y x ≡ true))

-- each is before each later one
abbrev pub AreRising : {A : Type 0} → (A → A → Bool) → List A → Type 0
AreRising before [] = Unit {0}
AreRising before (x ∷ xs) = Each (λ y. before x y ≡ true) xs × AreRising before xs

-- none is before an earlier one
abbrev pub AreSorted : {A : Type 0} → (A → A → Bool) → List A → Type 0
AreSorted before [] = Unit {0}
AreSorted before (x ∷ xs) = Each (λ y. ¬ (before y x ≡ true)) xs × AreSorted before xs
