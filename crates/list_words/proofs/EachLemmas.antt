-- Each item of a list, and some item.
use Rattle.std.proofs.Common.{ℕ, ◌≡◌, List, [], ◌∷◌, ◌++◌, map, Some, refl, arith, zero, suc, sym, ap, subst, inl, inr}
use Rattle.std.specs.Prelude.{◌⊎◌, slice_get}
use Rattle.list_words.specs.Lists.{Each, Some_of, IsOneOf, AreDifferent}
use Rattle.list_words.proofs.GetLemmas.{same_some}

pub each_of : {A : Type 0} (P : A → Type 0) (xs : List A) → ((k : ℕ) (x : A) → slice_get xs k ≡ Some x → P x) → Each P xs
each_of P [] h = tt
each_of P (x ∷ xs) h = (h 0 x refl, each_of P xs (λ k y e. h (suc k) y e))

pub each_at : {A : Type 0} (P : A → Type 0) (xs : List A) (k : ℕ) (x : A) → Each P xs → slice_get xs k ≡ Some x → P x
each_at P [] k x all e = cc
each_at P (y ∷ ys) zero x all e = let same : y ≡ x = cc in subst P same all.0
each_at P (y ∷ ys) (suc k) x all e = each_at P ys k x all.1 e

pub each_weaker : {A : Type 0} (P Q : A → Type 0) → ((x : A) → P x → Q x) → (xs : List A) → Each P xs → Each Q xs
each_weaker P Q f [] h = tt
each_weaker P Q f (x ∷ xs) h = (f x h.0, each_weaker P Q f xs h.1)

pub each_both : {A : Type 0} (P Q : A → Type 0) (xs : List A) → Each P xs → Each Q xs → Each (λ x. P x × Q x) xs
each_both P Q [] p q = tt
each_both P Q (x ∷ xs) p q = ((p.0, q.0), each_both P Q xs p.1 q.1)

pub each_append : {A : Type 0} (P : A → Type 0) (xs ys : List A) → Each P xs → Each P ys → Each P (xs ++ ys)
each_append P [] ys h k = k
each_append P (x ∷ xs) ys h k = (h.0, each_append P xs ys h.1 k)

pub each_left : {A : Type 0} (P : A → Type 0) (xs ys : List A) → Each P (xs ++ ys) → Each P xs
each_left P [] ys h = tt
each_left P (x ∷ xs) ys h = (h.0, each_left P xs ys h.1)

pub each_right : {A : Type 0} (P : A → Type 0) (xs ys : List A) → Each P (xs ++ ys) → Each P ys
each_right P [] ys h = h
each_right P (x ∷ xs) ys h = each_right P xs ys h.1

pub each_some : {A : Type 0} (P : A → Type 0) (xs : List A) (x : A) → Each P xs → Some_of (λ (y : A). y ≡ x) xs → P x
each_some P [] x p i = absurd i
each_some P (y ∷ ys) x p (inl e) = subst P e p.0
each_some P (y ∷ ys) x p (inr i) = each_some P ys x p.1 i

pub each_by : {A : Type 0} (P : A → Type 0) (xs : List A) → ((x : A) → Some_of (λ (y : A). y ≡ x) xs → P x) → Each P xs
each_by P [] h = tt
each_by P (x ∷ xs) h = (h x (inl refl), each_by P xs (λ y i. h y (inr i)))

-- each item is one of the list, besides what holds of it
pub each_own : {A : Type 0} (P : A → Type 0) (xs : List A) → Each P xs → Each (λ x. Some_of (λ (y : A). y ≡ x) xs × P x) xs
each_own {A} P xs p = go xs xs (λ x i. i) p
  where
    go : (some all : List A) → ((x : A) → Some_of (λ (y : A). y ≡ x) some → Some_of (λ (y : A). y ≡ x) all) → Each P some
        → Each (λ x. Some_of (λ (y : A). y ≡ x) all × P x) some
    go [] all f p = tt
    go (x ∷ xs) all f p = ((f x (inl refl), p.0), go xs all (λ y i. f y (inr i)) p.1)

pub some_at : {A : Type 0} (P : A → Type 0) (xs : List A) (k : ℕ) (x : A) → slice_get xs k ≡ Some x → P x → Some_of P xs
some_at P [] k x e p = cc
some_at P (y ∷ ys) zero x e p = let same : x ≡ y = cc in inl (subst P same p)
some_at P (y ∷ ys) (suc k) x e p = inr (some_at P ys k x e p)

pub some_none : {A : Type 0} (P : A → Type 0) (xs : List A) → ((k : ℕ) (x : A) → slice_get xs k ≡ Some x → P x → ⊥) → Some_of P xs → ⊥
some_none P [] none h = h
some_none P (x ∷ xs) none (inl p) = none 0 x refl p
some_none P (x ∷ xs) none (inr h) = some_none P xs (λ k y e p. none (suc k) y e p) h

pub some_one_at : {A : Type 0} (P : A → Type 0) (xs : List A) (x : A) → IsOneOf xs x → P x → Some_of P xs
some_one_at P xs x i h = at_place P xs x i.0 i.1 h
  where
    at_place : {A : Type 0} (P : A → Type 0) (xs : List A) (x : A) (i : ℕ) → slice_get xs i ≡ Some x → P x → Some_of P xs
    at_place P [] x i e h = cc
    at_place P (y ∷ ys) x zero e h = let same : x ≡ y = cc in inl (subst P same h)
    at_place P (y ∷ ys) x (suc i) e h = inr (at_place P ys x i e h)

pub some_weaker : {A : Type 0} (P Q : A → Type 0) → ((x : A) → P x → Q x) → (xs : List A) → Some_of P xs → Some_of Q xs
some_weaker P Q f [] h = h
some_weaker P Q f (x ∷ xs) (inl h) = inl (f x h)
some_weaker P Q f (x ∷ xs) (inr h) = inr (some_weaker P Q f xs h)

-- one item for which both hold
pub some_each : {A : Type 0} (P Q : A → Type 0) (C : Type 0) → ((x : A) → P x → Q x → C) → (xs : List A) → Some_of P xs → Each Q xs → C
some_each P Q C f [] h k = absurd h
some_each P Q C f (x ∷ xs) (inl h) k = f x h k.0
some_each P Q C f (x ∷ xs) (inr h) k = some_each P Q C f xs h k.1

pub some_left : {A : Type 0} (P : A → Type 0) (xs ys : List A) → Some_of P xs → Some_of P (xs ++ ys)
some_left P [] ys h = absurd h
some_left P (x ∷ xs) ys (inl h) = inl h
some_left P (x ∷ xs) ys (inr h) = inr (some_left P xs ys h)

pub some_right : {A : Type 0} (P : A → Type 0) (xs ys : List A) → Some_of P ys → Some_of P (xs ++ ys)
some_right P [] ys h = h
some_right P (x ∷ xs) ys h = inr (some_right P xs ys h)

pub some_cases : {A : Type 0} (P : A → Type 0) (xs ys : List A) → Some_of P (xs ++ ys) → Some_of P xs ⊎ Some_of P ys
some_cases P [] ys h = inr h
some_cases P (x ∷ xs) ys (inl h) = inl (inl h)
some_cases P (x ∷ xs) ys (inr h) = by_side (some_cases P xs ys h)
  where
    by_side : Some_of P xs ⊎ Some_of P ys → (P x ⊎ Some_of P xs) ⊎ Some_of P ys
    by_side (inl k) = inl (inr k)
    by_side (inr k) = inr k

-- which item it is
pub some_item : {A : Type 0} (P : A → Type 0) (xs : List A) → Some_of P xs → (x : A) × IsOneOf xs x × P x
some_item P [] h = absurd h
some_item P (x ∷ xs) (inl h) = (x, (0, refl), h)
some_item P (x ∷ xs) (inr h) = let r = some_item P xs h in (r.0, (suc r.1.0, r.1.1), r.2)

pub some_map : {A B : Type 0} (f : A → B) (P : B → Type 0) (xs : List A) → Some_of (λ x. P (f x)) xs → Some_of P (map f xs)
some_map f P [] h = h
some_map f P (x ∷ xs) (inl h) = inl h
some_map f P (x ∷ xs) (inr h) = inr (some_map f P xs h)

pub map_some : {A B : Type 0} (f : A → B) (P : B → Type 0) (xs : List A) → Some_of P (map f xs) → Some_of (λ x. P (f x)) xs
map_some f P [] h = h
map_some f P (x ∷ xs) (inl h) = inl h
map_some f P (x ∷ xs) (inr h) = inr (map_some f P xs h)

pub one_of_same : {A : Type 0} (xs : List A) (x : A) → Some_of (λ y. y ≡ x) xs → IsOneOf xs x
one_of_same [] x h = absurd h
one_of_same (y ∷ ys) x (inl e) = (0, ap Some e)
one_of_same (y ∷ ys) x (inr h) = let r = one_of_same ys x h in (suc r.0, r.1)

pub same_one_of : {A : Type 0} (xs : List A) (x : A) → IsOneOf xs x → Some_of (λ y. y ≡ x) xs
same_one_of xs x i = some_one_at (λ y. y ≡ x) xs x i refl

pub some_one : {A : Type 0} (P : A → Type 0) (xs : List A) → Some_of P xs → (x : A) × Some_of (λ (y : A). y ≡ x) xs × P x
some_one P [] h = absurd h
some_one P (x ∷ xs) (inl h) = (x, inl refl, h)
some_one P (x ∷ xs) (inr h) = let r = some_one P xs h in (r.0, inr r.1, r.2)

pub one_some : {A : Type 0} (P : A → Type 0) (xs : List A) (x : A) → Some_of (λ (y : A). y ≡ x) xs → P x → Some_of P xs
one_some P xs x i p = some_weaker (λ y. y ≡ x) P (λ y e. subst P (sym e) p) xs i

-- the first of different items is none of the rest, which are different too
pub different_rest : {A : Type 0} (x : A) (xs : List A) → AreDifferent (x ∷ xs) → Each (λ y. x ≡ y → ⊥) xs × AreDifferent xs
different_rest {A} x xs d = (each_of (λ y. x ≡ y → ⊥) xs apart, λ i j y a b. let e = d (suc i) (suc j) y a b in omega (arith, e))
  where
    apart : (k : ℕ) (y : A) → slice_get xs k ≡ Some y → x ≡ y → ⊥
    apart k y at e = let f : 0 ≡ suc k = d 0 (suc k) y (ap Some e) at in omega (arith, f)

-- different items, with one in front that is none of them
pub different_more : {A : Type 0} (x : A) (xs : List A) → Each (λ y. x ≡ y → ⊥) xs → AreDifferent xs → AreDifferent (x ∷ xs)
different_more x xs n d zero zero y a b = refl
different_more x xs n d zero (suc j) y a b = absurd (each_at (λ y. x ≡ y → ⊥) xs j y n b (same_some x y a))
different_more x xs n d (suc i) zero y a b = absurd (each_at (λ y. x ≡ y → ⊥) xs i y n a (same_some x y b))
different_more x xs n d (suc i) (suc j) y a b = ap suc (d i j y a b)
