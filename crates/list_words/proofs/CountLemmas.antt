-- Items counted by a test; an injective map leads to at least as many of a kind.
use Rattle.std.proofs.Common.{ℕ, ◌≡◌, ◌<◌, ◌≤◌, ◌+◌, Bool, true, false, cond, List, [], ◌∷◌, Some, length, refl, arith, zero, suc}
use Rattle.std.proofs.Common.{◌∙◌, ap}
use Rattle.std.specs.Prelude.{slice_get, pred}
use Rattle.list_words.specs.Lists.{Each}
use Rattle.list_words.specs.Embeds.{Embeds}
use Rattle.list_words.proofs.GetLemmas.{get_below}

abbrev pub count : {A : Type 0} → (A → Bool) → List A → ℕ
count p [] = 0
count p (x ∷ xs) = cond (p x) 1 0 + count p xs

pub none_counted : {A : Type 0} (p : A → Bool) (xs : List A) → Each (λ x. p x ≡ false) xs → count p xs ≡ 0
none_counted p [] h = refl
none_counted p (x ∷ xs) h = let r = none_counted p xs h.1 in rw (h.0, r) refl

abbrev pub cut : {A : Type 0} → ℕ → List A → List A
cut j [] = []
cut zero (x ∷ xs) = xs
cut (suc j) (x ∷ xs) = x ∷ cut j xs

-- where a place stands once place j is cut out
abbrev pub shift : ℕ → ℕ → ℕ
shift zero k = pred k
shift (suc j) zero = 0
shift (suc j) (suc k) = suc (shift j k)

pub get_cut : {A : Type 0} (xs : List A) (j k : ℕ) → (k ≡ j → ⊥) → slice_get (cut j xs) (shift j k) ≡ slice_get xs k
get_cut [] j k n = refl
get_cut (x ∷ xs) zero zero n = absurd (n refl)
get_cut (x ∷ xs) zero (suc k) n = refl
get_cut (x ∷ xs) (suc j) zero n = refl
get_cut (x ∷ xs) (suc j) (suc k) n = get_cut xs j k (λ e. n (ap suc e))

pub shift_apart : (j k l : ℕ) → (k ≡ j → ⊥) → (l ≡ j → ⊥) → shift j k ≡ shift j l → k ≡ l
shift_apart zero zero l n m e = absurd (n refl)
shift_apart zero (suc k) zero n m e = absurd (m refl)
shift_apart zero (suc k) (suc l) n m e = ap suc e
shift_apart (suc j) zero zero n m e = refl
shift_apart (suc j) zero (suc l) n m e = absurd (omega (arith, e))
shift_apart (suc j) (suc k) zero n m e = absurd (omega (arith, e))
shift_apart (suc j) (suc k) (suc l) n m e = ap suc (shift_apart j k l (λ d. n (ap suc d)) (λ d. m (ap suc d)) (omega (arith, e)))

pub count_cut : {A : Type 0} (q : A → Bool) (xs : List A) (j : ℕ) (x : A) → slice_get xs j ≡ Some x
    → count q xs ≡ cond (q x) 1 0 + count q (cut j xs)
count_cut q [] j x e = cc
count_cut q (y ∷ ys) zero x e = let same : y ≡ x = cc in ap (λ v. cond (q v) 1 0 + count q ys) same
count_cut q (y ∷ ys) (suc j) x e = let r = count_cut q ys j x e in omega (arith, r)

pub embeds_rest : {A B : Type 0} (R : A → B → Type 0) (x : A) (xs : List A) (ys : List B) (f : Embeds R (x ∷ xs) ys) → Embeds R xs (cut (f.to 0) ys)
embeds_rest R x xs ys f = record {
  to = λ i. shift (f.to 0) (f.to (suc i));
  apart = λ i j li lj e. let r = f.apart (suc i) (suc j) (omega arith) (omega arith)
      (shift_apart (f.to 0) (f.to (suc i)) (f.to (suc j)) (moved i li) (moved j lj) e) in omega (arith, r);
  each = λ i y is. let one = f.each (suc i) y is in (one.0, get_cut ys (f.to 0) (f.to (suc i)) (moved i (get_below xs i y is)) ∙ one.1, one.2);
}
  where
    moved : (i : ℕ) → i < length xs → f.to (suc i) ≡ f.to 0 → ⊥
    moved i l e = let r : suc i ≡ 0 = f.apart (suc i) 0 (omega arith) (omega arith) e in omega (arith, r)

pub counted : {A B : Type 0} (R : A → B → Type 0) (p : A → Bool) (q : B → Bool) → ((x : A) (y : B) → R x y → p x ≡ true → q y ≡ true)
    → (xs : List A) (ys : List B) → Embeds R xs ys
    → count p xs ≤ count q ys
counted R p q h [] ys f = omega arith
counted R p q h (x ∷ xs) ys f =
    let one = f.each 0 x refl in
    let rest = counted R p q h xs (cut (f.to 0) ys) (embeds_rest R x xs ys f) in
    let whole = count_cut q ys (f.to 0) one.0 one.1 in
    by_test (p x) (q one.0) refl (h x one.0 one.2) rest whole
  where
    by_test : (s t : Bool) → p x ≡ s → (p x ≡ true → t ≡ true) → {m n w : ℕ} → m ≤ n → w ≡ cond t 1 0 + n → cond s 1 0 + m ≤ w
    by_test false t e k l w = omega arith
    by_test true true e k l w = omega arith
    by_test true false e k l w = let no' = k e in cc

-- an injective map leads to a list that is as long or longer
pub embeds_long : {A B : Type 0} (R : A → B → Type 0) (xs : List A) (ys : List B) → Embeds R xs ys → length xs ≤ length ys
embeds_long R xs ys f =
    let r = counted R (λ x. true) (λ y. true) (λ x y h e. refl) xs ys f in let a = all_counted xs in let b = all_counted ys in omega (arith, r, a, b)
  where
    all_counted : {A : Type 0} (xs : List A) → count (λ x. true) xs ≡ length xs
    all_counted [] = refl
    all_counted (x ∷ xs) = let r = all_counted xs in omega (arith, r)
