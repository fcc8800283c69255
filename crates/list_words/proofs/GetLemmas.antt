-- The items at the places of a list, also of one that was changed, cut or extended.
use Rattle.std.proofs.Common.{ℕ, ◌≡◌, ◌<◌, ◌≤◌, ◌+◌, Bool, true, false, cond, eqb, List, [], ◌∷◌, ◌++◌, map, None, Some}
use Rattle.std.proofs.Common.{length, get_or, take, refl, arith, zero, suc, sym, ◌∙◌, ap, subst, inl, inr}
use Rattle.std.specs.Prelude.{◌⊎◌, slice_get, slice_set, Contains}
use Rattle.std.proofs.lemmas.Bool.{eqb-true}
use Rattle.std.proofs.lemmas.Bool.Decides.{nat_tests}

pub same_some : {A : Type 0} (x y : A) → Some x ≡ Some y → x ≡ y
same_some x y e = cc

pub some_cond : {A : Type 0} (t : Bool) (x y : A) → cond t None (Some x) ≡ Some y → (t ≡ false) × (x ≡ y)
some_cond true x y e = cc
some_cond false x y e = (refl, cc)

pub get_below : {A : Type 0} (xs : List A) (i : ℕ) (x : A) → slice_get xs i ≡ Some x → i < length xs
get_below [] i x e = cc
get_below (y ∷ ys) zero x e = omega arith
get_below (y ∷ ys) (suc i) x e = let r = get_below ys i x e in omega (arith, r)

pub get_there : {A : Type 0} (xs : List A) (i : ℕ) → i < length xs → (x : A) × (slice_get xs i ≡ Some x)
get_there [] i l = absurd (omega arith)
get_there (x ∷ xs) zero l = (x, refl)
get_there (x ∷ xs) (suc i) l = get_there xs i (omega arith)

pub get_within : {A : Type 0} (xs : List A) (k : ℕ) (x : A) → slice_get xs k ≡ Some x → (k < length xs) × (x ≡ get_or xs k x)
get_within [] k x e = cc
get_within (y ∷ ys) zero x e = (omega arith, cc)
get_within (y ∷ ys) (suc k) x e = let r = get_within ys k x e in (omega (arith, r.0), r.1)

pub get_at : {A : Type 0} (xs : List A) (k : ℕ) (d : A) → k < length xs → slice_get xs k ≡ Some (get_or xs k d)
get_at [] k d l = absurd (omega arith)
get_at (x ∷ xs) zero d l = refl
get_at (x ∷ xs) (suc k) d l = get_at xs k d (omega arith)

pub get_any : {A : Type 0} (xs : List A) (k : ℕ) (d e : A) → k < length xs → get_or xs k d ≡ get_or xs k e
get_any [] k d e l = absurd (omega arith)
get_any (x ∷ xs) zero d e l = refl
get_any (x ∷ xs) (suc k) d e l = get_any xs k d e (omega arith)

pub get_take : {A : Type 0} (xs : List A) (n k : ℕ) → k < n → slice_get (take n xs) k ≡ slice_get xs k
get_take xs zero k l = absurd (omega arith)
get_take [] (suc n) k l = refl
get_take (x ∷ xs) (suc n) zero l = refl
get_take (x ∷ xs) (suc n) (suc k) l = get_take xs n k (omega arith)

pub get_taken : {A : Type 0} (xs : List A) (n k : ℕ) (x : A) → slice_get (take n xs) k ≡ Some x → (k < n) × (slice_get xs k ≡ Some x)
get_taken xs zero k x e = cc
get_taken [] (suc n) k x e = cc
get_taken (y ∷ ys) (suc n) zero x e = (omega arith, e)
get_taken (y ∷ ys) (suc n) (suc k) x e = let r = get_taken ys n k x e in (omega (arith, r.0), r.1)

pub take_all : {A : Type 0} (xs : List A) (n : ℕ) → length xs ≤ n → take n xs ≡ xs
take_all [] zero h = refl
take_all [] (suc n) h = refl
take_all (x ∷ xs) zero h = absurd (omega arith)
take_all (x ∷ xs) (suc n) h = ap (λ t. x ∷ t) (take_all xs n (omega arith))

pub at_contains : {A : Type 0} (xs : List A) (x : A) → Contains xs x → (k : ℕ) × (slice_get xs k ≡ Some x)
at_contains xs x h = (h.0, get_at xs h.0 x h.1 ∙ ap Some h.2)

-- the items up to a place, with the one there
pub take_one_more : {A : Type 0} (xs : List A) (i : ℕ) (x : A) → slice_get xs i ≡ Some x → take (i + 1) xs ≡ take i xs ++ x ∷ []
take_one_more [] i x e = cc
take_one_more (y ∷ ys) zero x e = let same : y ≡ x = cc in rw same refl
take_one_more (y ∷ ys) (suc i) x e = let n : suc i + 1 ≡ suc (i + 1) = omega arith in rw n (ap (λ t. y ∷ t) (take_one_more ys i x e))

-- what holds of the items before a place, and of the one there
pub below_more : {A : Type 0} (P : A → Type 0) (xs : List A) (i : ℕ) (x : A) → ((k : ℕ) (y : A) → k < i → slice_get xs k ≡ Some y → P y)
    → slice_get xs i ≡ Some x → P x
    → (k : ℕ) (y : A) → k < i + 1 → slice_get xs k ≡ Some y → P y
below_more P xs i x before at here k y l e = by_place (eqb k i) refl
  where
    by_place : (t : Bool) → eqb k i ≡ t → P y
    by_place true t =
        let same : k ≡ i = eqb-true k i t in
        let at' : slice_get xs k ≡ Some x = subst (λ j. slice_get xs j ≡ Some x) (sym same) at in
        let item : x ≡ y = cc in subst P item here
    by_place false t = let less : k < i = grind (arith, nat_tests) in before k y less e

pub get_append : {A : Type 0} (xs : List A) (y : A) (i : ℕ) → i < length xs → slice_get (xs ++ y ∷ []) i ≡ slice_get xs i
get_append [] y i l = absurd (omega arith)
get_append (x ∷ xs) y zero l = refl
get_append (x ∷ xs) y (suc i) l = get_append xs y i (omega arith)

pub get_last : {A : Type 0} (xs : List A) (y : A) → slice_get (xs ++ y ∷ []) (length xs) ≡ Some y
get_last [] y = refl
get_last (x ∷ xs) y = get_last xs y

pub length_more : {A : Type 0} (xs : List A) (y : A) → length (xs ++ y ∷ []) ≡ length xs + 1
length_more [] y = refl
length_more (x ∷ xs) y = let r = length_more xs y in omega (arith, r)

pub get_last_cases : {A : Type 0} (xs : List A) (x y : A) (k : ℕ) → slice_get (xs ++ x ∷ []) k ≡ Some y → (slice_get xs k ≡ Some y)
    ⊎ ((k ≡ length xs) × (x ≡ y))
get_last_cases [] x y zero e = inr (refl, cc)
get_last_cases [] x y (suc k) e = cc
get_last_cases (z ∷ zs) x y zero e = inl e
get_last_cases (z ∷ zs) x y (suc k) e = more (get_last_cases zs x y k e)
  where
    more : (slice_get zs k ≡ Some y) ⊎ ((k ≡ length zs) × (x ≡ y)) → (slice_get zs k ≡ Some y) ⊎ ((suc k ≡ suc (length zs)) × (x ≡ y))
    more (inl e) = inl e
    more (inr e) = inr (ap suc e.0, e.1)

pub get_set_same : {A : Type 0} (xs : List A) (i : ℕ) (v : A) → i < length xs → slice_get (slice_set xs i v) i ≡ Some v
get_set_same [] i v l = absurd (omega arith)
get_set_same (x ∷ xs) zero v l = refl
get_set_same (x ∷ xs) (suc i) v l = get_set_same xs i v (omega arith)

pub get_set_other : {A : Type 0} (xs : List A) (i j : ℕ) (v : A) → (i ≡ j → ⊥) → slice_get (slice_set xs i v) j ≡ slice_get xs j
get_set_other [] i j v ne = refl
get_set_other (x ∷ xs) zero zero v ne = absurd (ne refl)
get_set_other (x ∷ xs) zero (suc j) v ne = refl
get_set_other (x ∷ xs) (suc i) zero v ne = refl
get_set_other (x ∷ xs) (suc i) (suc j) v ne = get_set_other xs i j v (λ e. ne (ap suc e))

pub length_set : {A : Type 0} (xs : List A) (i : ℕ) (v : A) → length (slice_set xs i v) ≡ length xs
length_set [] i v = refl
length_set (x ∷ xs) zero v = refl
length_set (x ∷ xs) (suc i) v = ap suc (length_set xs i v)

pub get_set : {A : Type 0} (xs : List A) (i : ℕ) (x y : A) → slice_get xs i ≡ Some x → slice_get (slice_set xs i y) i ≡ Some y
get_set xs i x y e = get_set_same xs i y (get_below xs i x e)

pub set_twice : {A : Type 0} (xs : List A) (i : ℕ) (x y : A) → slice_set (slice_set xs i x) i y ≡ slice_set xs i y
set_twice [] i x y = refl
set_twice (z ∷ zs) zero x y = refl
set_twice (z ∷ zs) (suc i) x y = ap (λ t. z ∷ t) (set_twice zs i x y)

pub set_itself : {A : Type 0} (xs : List A) (t : ℕ) (x : A) → slice_get xs t ≡ Some x → slice_set xs t x ≡ xs
set_itself [] t x e = refl
set_itself (y ∷ ys) zero x e = let same : y ≡ x = cc in ap (λ z. z ∷ ys) (sym same)
set_itself (y ∷ ys) (suc t) x e = ap (λ zs. y ∷ zs) (set_itself ys t x e)

pub get_map : {A B : Type 0} (f : A → B) (xs : List A) (k : ℕ) (x : A) → slice_get xs k ≡ Some x → slice_get (map f xs) k ≡ Some (f x)
get_map f [] k x e = cc
get_map f (y ∷ ys) zero x e = let same : y ≡ x = cc in ap (λ z. Some (f z)) same
get_map f (y ∷ ys) (suc k) x e = get_map f ys k x e
