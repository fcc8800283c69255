-- Injective maps: composed, extended and read.
use Rattle.std.proofs.Common.{ℕ, ◌≡◌, ◌<◌, Bool, true, false, eqb, List, [], ◌∷◌, Some, length, refl, arith, zero, suc, sym, ◌∙◌, ap}
use Rattle.std.proofs.Common.{subst, inl, inr}
use Rattle.std.specs.Prelude.{◌⊎◌, slice_get}
use Rattle.std.proofs.lemmas.Bool.{eqb-true, eq-eqb}
use Rattle.list_words.specs.Embeds.{Embeds}
use Rattle.list_words.proofs.NumberLemmas.{cases_eq}
use Rattle.list_words.proofs.GetLemmas.{get_below, get_there}

-- two maps, one after the other
pub compose : {A B C : Type 0} (R : A → B → Type 0) (S : B → C → Type 0) (T : A → C → Type 0) (xs : List A) (ys : List B) (zs : List C)
    → ((x : A) (y : B) (z : C) → R x y → S y z → T x z) → Embeds R xs ys → Embeds S ys zs → Embeds T xs zs
compose R S T xs ys zs through f g = record {
  to = λ i. g.to (f.to i);
  apart = λ i j l m e. f.apart i j l m (g.apart (f.to i) (f.to j) (below i l) (below j m) e);
  each = λ i x at.
      let one = f.each i x at in
      let two = g.each (f.to i) one.0 one.1 in
      (two.0, two.1, through x one.0 two.0 one.2 two.2);
}
  where
    below : (i : ℕ) → i < length xs → f.to i < length ys
    below i l = let x = get_there xs i l in let y = f.each i x.0 x.1 in get_below ys (f.to i) y.0 y.1

-- a place below the number goes there, or none does
pub find_place : (to : ℕ → ℕ) (p n : ℕ) → ((t : ℕ) × (t < n) × (to t ≡ p)) ⊎ ((i : ℕ) → i < n → to i ≡ p → ⊥)
find_place to p zero = inr (λ i l e. omega arith)
find_place to p (suc n) = by_last (find_place to p n) (eqb (to n) p) refl
  where
    by_last : ((t : ℕ) × (t < n) × (to t ≡ p)) ⊎ ((i : ℕ) → i < n → to i ≡ p → ⊥) → (b : Bool) → eqb (to n) p ≡ b
        → ((t : ℕ) × (t < suc n) × (to t ≡ p)) ⊎ ((i : ℕ) → i < suc n → to i ≡ p → ⊥)
    by_last (inl found) b e = inl (found.0, omega (arith, found.1), found.2)
    by_last (inr none) true e = inl (n, omega arith, eqb-true (to n) p e)
    by_last (inr none) false e = inr (λ i l same. by_place (cases_eq i n) same l)
      where
        by_place : {i : ℕ} → (i ≡ n) ⊎ (i ≡ n → ⊥) → to i ≡ p → i < suc n → ⊥
        by_place {i} (inl here) same l = let there : to n ≡ p = ap to (sym here) ∙ same in let yes : eqb (to n) p ≡ true = eq-eqb (to n) p there in cc
        by_place {i} (inr else') same l = none i (omega arith) same

pub embeds_itself : {A : Type 0} (R : A → A → Type 0) → ((x : A) → R x x) → (xs : List A) → Embeds R xs xs
embeds_itself R own xs = record { to = λ i. i; apart = λ i j l m e. e; each = λ i x is. (x, is, own x) }

pub embeds_front : {A B : Type 0} (R : A → B → Type 0) (x : A) (y : B) (xs : List A) (ys : List B) → R x y → Embeds R xs ys
    → Embeds R (x ∷ xs) (y ∷ ys)
embeds_front {A} {B} R x y xs ys r f = record { to = to; apart = apart; each = each }
  where
    to : ℕ → ℕ
    to zero = 0
    to (suc i) = suc (f.to i)

    apart : (i j : ℕ) → i < length (x ∷ xs) → j < length (x ∷ xs) → to i ≡ to j → i ≡ j
    apart zero zero l m e = refl
    apart zero (suc j) l m e = absurd (omega (arith, e))
    apart (suc i) zero l m e = absurd (omega (arith, e))
    apart (suc i) (suc j) l m e = ap suc (f.apart i j (omega arith) (omega arith) (omega (arith, e)))

    each : (i : ℕ) (v : A) → slice_get (x ∷ xs) i ≡ Some v → (w : B) × (slice_get (y ∷ ys) (to i) ≡ Some w) × R v w
    each zero v is = let is' : Some x ≡ Some v = is in let same : x ≡ v = cc in (y, refl, subst (λ u. R u y) same r)
    each (suc i) v is = f.each i v is

pub embeds_swap : {A : Type 0} (R : A → A → Type 0) → ((x : A) → R x x) → (x y : A) (zs : List A) → Embeds R (x ∷ y ∷ zs) (y ∷ x ∷ zs)
embeds_swap {A} R own x y zs = record { to = to; apart = apart; each = each }
  where
    to : ℕ → ℕ
    to zero = 1
    to (suc zero) = 0
    to (suc (suc i)) = suc (suc i)

    apart : (i j : ℕ) → i < length (x ∷ y ∷ zs) → j < length (x ∷ y ∷ zs) → to i ≡ to j → i ≡ j
    apart zero zero l m e = refl
    apart zero (suc zero) l m e = absurd (omega (arith, e))
    apart zero (suc (suc j)) l m e = absurd (omega (arith, e))
    apart (suc zero) zero l m e = absurd (omega (arith, e))
    apart (suc zero) (suc zero) l m e = refl
    apart (suc zero) (suc (suc j)) l m e = absurd (omega (arith, e))
    apart (suc (suc i)) zero l m e = absurd (omega (arith, e))
    apart (suc (suc i)) (suc zero) l m e = absurd (omega (arith, e))
    apart (suc (suc i)) (suc (suc j)) l m e = e

    each : (i : ℕ) (v : A) → slice_get (x ∷ y ∷ zs) i ≡ Some v → (w : A) × (slice_get (y ∷ x ∷ zs) (to i) ≡ Some w) × R v w
    each zero v is = (v, is, own v)
    each (suc zero) v is = (v, is, own v)
    each (suc (suc i)) v is = (v, is, own v)

-- nothing stands to anything
pub embeds_none : {A B : Type 0} (R : A → B → Type 0) (ys : List B) → Embeds R [] ys
embeds_none R ys = record { to = λ i. i; apart = λ i j l m e. e; each = λ i x is. cc }
