-- First items, and what stands before a place.
use Rattle.std.proofs.Common.{ℕ, ◌≡◌, ◌<◌, List, [], ◌∷◌, take, refl, arith, zero, suc, ap, inl, inr}
use Rattle.std.specs.Prelude.{◌⊎◌}
use Rattle.list_words.specs.Lists.{Each, IsFirst, Some_of}
use Rattle.list_words.proofs.EachLemmas.{each_at, some_at}
use Rattle.list_words.proofs.NumberLemmas.{compare}

-- the first item has one place
pub first_one : {A : Type 0} (P : A → Type 0) (xs : List A) (p q : ℕ) → IsFirst P xs p → IsFirst P xs q → p ≡ q
first_one P xs p q a b = by_order (compare p q)
  where
    by_order : (p < q) ⊎ ((p ≡ q) ⊎ (q < p)) → p ≡ q
    by_order (inl l) = absurd (b.none_before p a.item l a.at a.holds)
    by_order (inr (inl e)) = e
    by_order (inr (inr l)) = absurd (a.none_before q b.item l b.at b.holds)

pub first_some : {A : Type 0} (P : A → Type 0) (xs : List A) (p : ℕ) → IsFirst P xs p → Some_of P xs
first_some P xs p first = some_at P xs p first.item first.at first.holds

-- where P holds of no item, there is no first one
pub first_none : {A : Type 0} (P : A → Type 0) (xs : List A) (p : ℕ) → IsFirst P xs p → Each (λ x. ¬ P x) xs → ⊥
first_none P xs p first none = each_at (λ x. ¬ P x) xs p first.item none first.at first.holds

-- what stands before a place of what stands before a later one
pub take_before : {A : Type 0} (xs : List A) (p q : ℕ) → p < q → take p (take q xs) ≡ take p xs
take_before xs zero q l = refl
take_before xs (suc p) zero l = absurd (omega arith)
take_before [] (suc p) (suc q) l = refl
take_before (x ∷ xs) (suc p) (suc q) l = ap (λ t. x ∷ t) (take_before xs p q (omega arith))
