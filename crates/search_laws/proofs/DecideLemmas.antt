-- Cover is decided, and so is whether a list covers a requirement and whether two requirements are one.
use Rattle.std.proofs.Common.{ℕ, ◌≡◌, ◌<◌, Bool, true, false, List, [], ◌∷◌, None, Some, Option, length, refl, arith, zero, suc, sym}
use Rattle.std.proofs.Common.{◌∙◌, ap, subst, inl, inr}
use Rattle.std.specs.Prelude.{◌⊎◌, slice_get}
use Rattle.list_words.specs.Lists.{Some_of}
use Rattle.list_words.specs.Embeds.{Embeds}
use Rattle.list_words.proofs.GetLemmas.{get_below, same_some}
use Rattle.list_words.proofs.NumberLemmas.{compare}
use Rattle.list_words.proofs.CountLemmas.{cut, embeds_rest}
use Rattle.list_words.proofs.EmbedLemmas.{embeds_none}
use Rattle.arbac_laws.specs.Needs.{Covers, CoversNeed, IsCovered, Need}
use Rattle.arbac_laws.specs.Orders.{requirement_before}
use Rattle.arbac_laws.proofs.FormPlaceLemmas.{pushed, pushed_apart, pushed_away}
use Rattle.arbac_laws.proofs.OrderLemmas.{requirement_order}
use Rattle.arbac_laws.proofs.SameLemmas.{covers_of_test, covers_test, test_of_covers}

-- it holds, or it doesn't
abbrev pub Decided : Type 0 → Type 0
Decided P = P ⊎ ¬ P

-- it holds of some item, or of none
pub some_decided : {A : Type 0} (P : A → Type 0) → ((x : A) → Decided (P x)) → (xs : List A) → Decided (Some_of P xs)
some_decided P d [] = inr (λ h. h)
some_decided P d (x ∷ xs) = by_cases (d x) (some_decided P d xs)
  where
    neither : ¬ P x → ¬ Some_of P xs → Some_of P (x ∷ xs) → ⊥
    neither n m (inl p) = n p
    neither n m (inr s) = m s

    by_cases : Decided (P x) → Decided (Some_of P xs) → Decided (Some_of P (x ∷ xs))
    by_cases (inl p) rest = inl (inl p)
    by_cases (inr n) (inl s) = inl (inr s)
    by_cases (inr n) (inr m) = inr (neither n m)

-- a place below the number is found, or there is none
pub place_decided : (P : ℕ → Type 0) → ((k : ℕ) → Decided (P k)) → (n : ℕ) → ((k : ℕ) × (k < n) × P k)
    ⊎ ((k : ℕ) → k < n → P k → ⊥)
place_decided P d zero = inr (λ k l p. omega arith)
place_decided P d (suc n) = by_cases (place_decided P d n) (d n)
  where
    by_cases : ((k : ℕ) × (k < n) × P k) ⊎ ((k : ℕ) → k < n → P k → ⊥) → Decided (P n) → ((k : ℕ) × (k < suc n) × P k)
        ⊎ ((k : ℕ) → k < suc n → P k → ⊥)
    by_cases (inl one) here = let l = one.1 in inl (one.0, omega (arith, l), one.2)
    by_cases (inr none) (inl p) = inl (n, omega arith, p)
    by_cases (inr none) (inr not') = inr (λ k l p. by_order (compare k n) l p)
      where
        by_order : {k : ℕ} → (k < n) ⊎ ((k ≡ n) ⊎ (n < k)) → k < suc n → P k → ⊥
        by_order {k} (inl less) l p = none k less p
        by_order (inr (inl e)) l p = not' (subst P e p)
        by_order (inr (inr more)) l p = omega (arith, more, l)

-- the items of a list without one stand in the whole list behind it where that one is passed over
pub get_put : {A : Type 0} (xs : List A) (j k : ℕ) → slice_get xs (pushed j k) ≡ slice_get (cut j xs) k
get_put [] j k = refl
get_put (x ∷ xs) zero k = refl
get_put (x ∷ xs) (suc j) zero = refl
get_put (x ∷ xs) (suc j) (suc k) = get_put xs j k

-- one item goes to a place, and the others to the rest
pub embeds_put : {A B : Type 0} (R : A → B → Type 0) (x : A) (xs : List A) (ys : List B) (j : ℕ) (y : B) → slice_get ys j ≡ Some y → R x y
    → Embeds R xs (cut j ys)
    → Embeds R (x ∷ xs) ys
embeds_put {A} {B} R x xs ys j y at r f = record { to = to; apart = apart; each = each }
  where
    to : ℕ → ℕ
    to zero = j
    to (suc i) = pushed j (f.to i)

    apart : (i k : ℕ) → i < length (x ∷ xs) → k < length (x ∷ xs) → to i ≡ to k → i ≡ k
    apart zero zero l m e = refl
    apart zero (suc k) l m e = absurd (pushed_away j (f.to k) e)
    apart (suc i) zero l m e = absurd (pushed_away j (f.to i) (sym e))
    apart (suc i) (suc k) l m e = ap suc (f.apart i k (omega arith) (omega arith) (pushed_apart j (f.to i) (f.to k) e))

    each : (i : ℕ) (v : A) → slice_get (x ∷ xs) i ≡ Some v → (w : B) × (slice_get ys (to i) ≡ Some w) × R v w
    each zero v is = let is' : Some x ≡ Some v = is in let same : x ≡ v = cc in (y, at, subst (λ u. R u y) same r)
    each (suc i) v is = let one = f.each i v is in (one.0, get_put ys j (f.to i) ∙ one.1, one.2)

-- the first item may go to the place, and the others to the rest
abbrev pub Fits : {A B : Type 0} → (A → B → Type 0) → A → List A → List B → ℕ → Type 0
Fits {A} {B} R x xs ys j = (y : B) × (slice_get ys j ≡ Some y) × R x y × Embeds R xs (cut j ys)

-- a place is such a one, or isn't
pub fits_decided : {A B : Type 0} (R : A → B → Type 0) → ((x : A) (y : B) → Decided (R x y)) → (x : A) (xs : List A) (ys : List B)
    → ((zs : List B) → Decided (Embeds R xs zs)) → (j : ℕ) → Decided (Fits R x xs ys j)
fits_decided {A} {B} R d x xs ys rest j = by_item (slice_get ys j) refl
  where
    by_parts : (y : B) → slice_get ys j ≡ Some y → Decided (R x y) → Decided (Embeds R xs (cut j ys)) → Decided (Fits R x xs ys j)
    by_parts y at (inl r) (inl f) = inl (y, at, r, f)
    by_parts y at (inl r) (inr n) = inr (λ h. n h.3)
    by_parts y at (inr n) other = inr (λ h. n (subst (R x) (same_some h.0 y (sym h.1 ∙ at)) h.2))

    by_item : (o : Option B) → slice_get ys j ≡ o → Decided (Fits R x xs ys j)
    by_item None at = inr (λ h. let there = h.1 in cc)
    by_item (Some y) at = by_parts y at (d x y) (rest (cut j ys))

-- an injective map is found, or there is none
pub embeds_decided : {A B : Type 0} (R : A → B → Type 0) → ((x : A) (y : B) → Decided (R x y)) → (xs : List A) (ys : List B)
    → Decided (Embeds R xs ys)
embeds_decided R d [] ys = inl (embeds_none R ys)
embeds_decided {A} {B} R d (x ∷ xs) ys = by_place (place_decided (Fits R x xs ys) (fits_decided R d x xs ys (embeds_decided R d xs)) (length ys))
  where
    by_place : ((j : ℕ) × (j < length ys) × Fits R x xs ys j) ⊎ ((j : ℕ) → j < length ys → Fits R x xs ys j → ⊥)
        → Decided (Embeds R (x ∷ xs) ys)
    by_place (inl one) = inl (embeds_put R x xs ys one.0 one.2.0 one.2.1 one.2.2 one.2.3)
    by_place (inr none) = inr (λ f. let one = f.each 0 x refl in
        none (f.to 0) (get_below ys (f.to 0) one.0 one.1) (one.0, one.1, one.2, embeds_rest R x xs ys f))

-- one user covers another, or doesn't
pub need_decided : (a b : Need) → Decided (CoversNeed a b)
need_decided a b = by_test (covers_test a b) refl
  where
    by_test : (t : Bool) → covers_test a b ≡ t → Decided (CoversNeed a b)
    by_test true e = inl (covers_of_test a b e)
    by_test false e = inr (λ c. let f = test_of_covers a b c in cc)

-- a requirement covers another, or doesn't
pub covers_decided : (a b : List Need) → Decided (Covers a b)
covers_decided a b = embeds_decided CoversNeed need_decided a b

-- a list covers a requirement, or doesn't
pub covered_decided : (list : List (List Need)) (needs : List Need) → Decided (IsCovered list needs)
covered_decided list needs = some_decided (λ one. Covers one needs) (λ one. covers_decided one needs) list

-- two requirements are one, or are not
pub same_decided : (a b : List Need) → Decided (a ≡ b)
same_decided a b = by_order (requirement_order.total a b)
  where
    by_order : (requirement_before a b ≡ true) ⊎ ((a ≡ b) ⊎ (requirement_before b a ≡ true)) → Decided (a ≡ b)
    by_order (inl l) = inr (λ e. requirement_order.never b (subst (λ v. requirement_before v b ≡ true) e l))
    by_order (inr (inl e)) = inl e
    by_order (inr (inr l)) = inr (λ e. requirement_order.never b (subst (λ v. requirement_before b v ≡ true) e l))
