-- Sorting, with and without repeats, and filters.
use Rattle.std.proofs.Common.{◌≡◌, List, [], ◌∷◌, sym, Bool, true, false, cond, subst, refl, inl, inr}
use Rattle.std.specs.Prelude.{◌⊎◌, filter}
use Rattle.list_words.specs.Lists.{Each, Some_of}
use Rattle.arbac_laws.specs.NormalForms.{insert_by, insert_once, sort_by, sort_once}
use Rattle.list_words.specs.Orders.{AreRising, AreSorted, IsTotalOrder}
use Rattle.list_words.proofs.EachLemmas.{each_by, each_some, each_weaker, some_weaker}
use Rattle.list_words.proofs.OrderLemmas.{not_both}

pub filter_in : {A : Type 0} (P : A → Type 0) (p : A → Bool) (xs : List A) → Some_of P (filter p xs) → Some_of (λ x. P x × (p x ≡ true)) xs
filter_in P p [] h = h
filter_in {A} P p (x ∷ xs) h = by_test (p x) refl h (filter_in P p xs)
  where
    by_test : (t : Bool) → p x ≡ t → Some_of P (cond t (x ∷ filter p xs) (filter p xs))
        → (Some_of P (filter p xs) → Some_of (λ x. P x × (p x ≡ true)) xs) → Some_of (λ x. P x × (p x ≡ true)) (x ∷ xs)
    by_test true e (inl h) rest = inl (h, e)
    by_test true e (inr h) rest = inr (rest h)
    by_test false e h rest = inr (rest h)

pub in_filter : {A : Type 0} (P : A → Type 0) (p : A → Bool) (xs : List A) → Some_of (λ x. P x × (p x ≡ true)) xs → Some_of P (filter p xs)
in_filter P p [] h = h
in_filter P p (x ∷ xs) (inl h) = let e = h.1 in rw e (inl h.0)
in_filter P p (x ∷ xs) (inr h) = by_test (p x) (in_filter P p xs h)
  where
    by_test : (t : Bool) → Some_of P (filter p xs) → Some_of P (cond t (x ∷ filter p xs) (filter p xs))
    by_test true k = inr k
    by_test false k = k

pub insert_in : {A : Type 0} (before : A → A → Bool) → IsTotalOrder before → (P : A → Type 0) (x : A) (ys : List A)
    → Some_of P (insert_once before x ys) → P x ⊎ Some_of P ys
insert_in before o P x [] (inl h) = inl h
insert_in before o P x [] (inr h) = inr h
insert_in before o P x (y ∷ ys) h = by_tests (before y x) (before x y) h (insert_in before o P x ys)
  where
    by_tests : (s t : Bool) → Some_of P (cond s (y ∷ insert_once before x ys) (cond t (x ∷ y ∷ ys) (y ∷ ys)))
        → (Some_of P (insert_once before x ys) → P x ⊎ Some_of P ys) → P x ⊎ Some_of P (y ∷ ys)
    by_tests true t (inl h) rest = inr (inl h)
    by_tests true t (inr h) rest = further (rest h)
      where
        further : P x ⊎ Some_of P ys → P x ⊎ Some_of P (y ∷ ys)
        further (inl h) = inl h
        further (inr h) = inr (inr h)
    by_tests false true (inl h) rest = inl h
    by_tests false true (inr h) rest = inr h
    by_tests false false h rest = inr h

pub in_insert : {A : Type 0} (before : A → A → Bool) → IsTotalOrder before → (P : A → Type 0) (x : A) (ys : List A) → P x ⊎ Some_of P ys
    → Some_of P (insert_once before x ys)
in_insert before o P x [] h = h
in_insert {A} before o P x (y ∷ ys) h = by_tests (before y x) (before x y) refl refl h (in_insert before o P x ys)
  where
    by_tests : (s t : Bool) → before y x ≡ s → before x y ≡ t → P x ⊎ Some_of P (y ∷ ys)
        → (P x ⊎ Some_of P ys → Some_of P (insert_once before x ys))
        → Some_of P (cond s (y ∷ insert_once before x ys) (cond t (x ∷ y ∷ ys) (y ∷ ys)))
    by_tests true t e f (inl h) rest = inr (rest (inl h))
    by_tests true t e f (inr (inl h)) rest = inl h
    by_tests true t e f (inr (inr h)) rest = inr (rest (inr h))
    by_tests false true e f h rest = h
    by_tests false false e f (inr h) rest = h
    by_tests false false e f (inl h) rest = by_total (o.total x y)
      where
        by_total : (before x y ≡ true) ⊎ ((x ≡ y) ⊎ (before y x ≡ true)) → Some_of P (y ∷ ys)
        by_total (inl k) = cc
        by_total (inr (inl same)) = inl (subst P same h)
        by_total (inr (inr k)) = cc

pub sort_in : {A : Type 0} (before : A → A → Bool) → IsTotalOrder before → (P : A → Type 0) (xs : List A) → Some_of P (sort_once before xs)
    → Some_of P xs
sort_in before o P [] h = h
sort_in before o P (x ∷ xs) h = by_side (insert_in before o P x (sort_once before xs) h) (sort_in before o P xs)
  where
    by_side : P x ⊎ Some_of P (sort_once before xs) → (Some_of P (sort_once before xs) → Some_of P xs) → P x ⊎ Some_of P xs
    by_side (inl h) rest = inl h
    by_side (inr h) rest = inr (rest h)

pub in_sort : {A : Type 0} (before : A → A → Bool) → IsTotalOrder before → (P : A → Type 0) (xs : List A) → Some_of P xs
    → Some_of P (sort_once before xs)
in_sort before o P [] h = h
in_sort before o P (x ∷ xs) (inl h) = in_insert before o P x (sort_once before xs) (inl h)
in_sort before o P (x ∷ xs) (inr h) = in_insert before o P x (sort_once before xs) (inr (in_sort before o P xs h))

pub insert_rises : {A : Type 0} (before : A → A → Bool) → IsTotalOrder before → (x : A) (ys : List A) → AreRising before ys
    → AreRising before (insert_once before x ys)
insert_rises before o x [] r = (tt, tt)
insert_rises {A} before o x (y ∷ ys) r = by_tests (before y x) (before x y) refl refl (insert_rises before o x ys r.1)
  where
    by_tests : (s t : Bool) → before y x ≡ s → before x y ≡ t → AreRising before (insert_once before x ys)
        → AreRising before (cond s (y ∷ insert_once before x ys) (cond t (x ∷ y ∷ ys) (y ∷ ys)))
    by_tests true t e f rest =
        (each_by (λ z. before y z ≡ true) (insert_once before x ys) (λ z i. later z (insert_in before o (λ (v : A). v ≡ z) x ys i)), rest)
      where
        later : (z : A) → (x ≡ z) ⊎ Some_of (λ (v : A). v ≡ z) ys → before y z ≡ true
        later z (inl s) = subst (λ v. before y v ≡ true) s e
        later z (inr i) = each_some (λ v. before y v ≡ true) ys z r.0 i
    by_tests false true e f rest = ((f, each_weaker (λ z. before y z ≡ true) (λ z. before x z ≡ true) (λ z k. o.through x y z f k) ys r.0), r)
    by_tests false false e f rest = r

pub sort_rises : {A : Type 0} (before : A → A → Bool) → IsTotalOrder before → (xs : List A) → AreRising before (sort_once before xs)
sort_rises before o [] = tt
sort_rises before o (x ∷ xs) = insert_rises before o x (sort_once before xs) (sort_rises before o xs)

pub filter_rises : {A : Type 0} (before : A → A → Bool) (p : A → Bool) (xs : List A) → AreRising before xs → AreRising before (filter p xs)
filter_rises before p [] r = tt
filter_rises {A} before p (x ∷ xs) r = by_test (p x) (filter_rises before p xs r.1)
  where
    by_test : (t : Bool) → AreRising before (filter p xs) → AreRising before (cond t (x ∷ filter p xs) (filter p xs))
    by_test false rest = rest
    by_test true rest = (
      each_by (λ z. before x z ≡ true) (filter p xs) (λ z i.
          each_some (λ v. before x v ≡ true) xs z r.0
          (some_weaker (λ v. (v ≡ z) × (p v ≡ true)) (λ (v : A). v ≡ z) (λ v b. b.0) xs (filter_in (λ (v : A). v ≡ z) p xs i))),
      rest,
    )

pub insert_by_in : {A : Type 0} (before : A → A → Bool) (P : A → Type 0) (x : A) (ys : List A) → Each P ys → P x → Each P (insert_by before x ys)
insert_by_in before P x [] e p = (p, tt)
insert_by_in before P x (y ∷ ys) e p = by_test (before y x) (insert_by_in before P x ys e.1 p)
  where
    by_test : (t : Bool) → Each P (insert_by before x ys) → Each P (cond t (y ∷ insert_by before x ys) (x ∷ y ∷ ys))
    by_test true rest = (e.0, rest)
    by_test false rest = (p, e)

pub sort_by_in : {A : Type 0} (before : A → A → Bool) (P : A → Type 0) (xs : List A) → Each P xs → Each P (sort_by before xs)
sort_by_in before P [] e = tt
sort_by_in before P (x ∷ xs) e = insert_by_in before P x (sort_by before xs) (sort_by_in before P xs e.1) e.0

pub insert_sorted : {A : Type 0} (before : A → A → Bool) → IsTotalOrder before → (x : A) (ys : List A) → AreSorted before ys
    → AreSorted before (insert_by before x ys)
insert_sorted before o x [] s = (tt, tt)
insert_sorted {A} before o x (y ∷ ys) s = by_test (before y x) refl (insert_sorted before o x ys s.1)
  where
    by_test : (t : Bool) → before y x ≡ t → AreSorted before (insert_by before x ys)
        → AreSorted before (cond t (y ∷ insert_by before x ys) (x ∷ y ∷ ys))
    by_test true e rest = (insert_by_in before (λ z. before z y ≡ true → ⊥) x ys s.0 (λ k. not_both before o x y k e), rest)
    by_test false e rest = (((λ k. cc), each_weaker (λ z. before z y ≡ true → ⊥) (λ z. before z x ≡ true → ⊥) later ys s.0), s)
      where
        later : (z : A) → (before z y ≡ true → ⊥) → before z x ≡ true → ⊥
        later z n k = by_total (o.total y z)
          where
            by_total : (before y z ≡ true) ⊎ ((y ≡ z) ⊎ (before z y ≡ true)) → ⊥
            by_total (inl b) = let c = o.through y z x b k in cc
            by_total (inr (inl same)) = let c = subst (λ v. before v x ≡ true) (sym same) k in cc
            by_total (inr (inr b)) = n b

pub sort_sorted : {A : Type 0} (before : A → A → Bool) → IsTotalOrder before → (xs : List A) → AreSorted before (sort_by before xs)
sort_sorted before o [] = tt
sort_sorted before o (x ∷ xs) = insert_sorted before o x (sort_by before xs) (sort_sorted before o xs)
