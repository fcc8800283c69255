-- What is wanted of one user: hits without lacks, the least of them, and sorted ones.
use Rattle.std.proofs.Common.{ℕ, ◌≡◌, ◌+◌, ◌∙◌, ◌&&◌, Bool, true, false, not, cond, List, [], ◌∷◌, map, drop, Some}
use Rattle.std.proofs.Common.{zero, suc, refl, ap, sym, arith}
use Rattle.std.specs.Prelude.{◌↔◌, IsTrue, filter, insert, slice_get}
use Rattle.std.specs.List.{list_any, prefix_len}
use Rattle.list_words.proofs.TestLemmas.{not_false, not_true}
use Rattle.list_words.proofs.GetLemmas.{same_some}
use Rattle.role_order.specs.Roles.{has_role, is_within, less_roles}
use Rattle.arbac_laws.specs.Needs.{IsPossible}
use Rattle.arbac_laws.specs.PreImages.{is_empty}
use Rattle.arbac_laws.specs.NormalForms.{insert_by, insert_once, is_impossible, sort_once}
use Rattle.arbac_laws.proofs.NormalLemmas.{not_possible, possible_not}
use Rattle.cert_needs.specs.declared.wanted.Wanted.{Wanted}
use Rattle.cert_needs.specs.Wanted.{need_wanted, needs_wanted}
use Rattle.cert_needs.specs.Forms.{wants_barred}

-- possible

-- nothing is left of a set exactly where it lies within what is taken out of it
bare_empty : (xs ys : List ℕ) → is_empty (less_roles xs ys) ≡ is_within xs ys
bare_empty [] ys = refl
bare_empty (x ∷ xs) ys = by_test (has_role ys x) (bare_empty xs ys)
  where
    by_test : (t : Bool) → is_empty (less_roles xs ys) ≡ is_within xs ys
        → is_empty (cond (not t) (x ∷ less_roles xs ys) (less_roles xs ys)) ≡ (t && is_within xs ys)
    by_test true rest = rest
    by_test false rest = refl

some_bare : (lacks : List ℕ) (hits : List (List ℕ))
    → list_any is_empty (map (λ hit. less_roles hit lacks) hits) ≡ list_any (λ hit. is_within hit lacks) hits
some_bare lacks [] = refl
some_bare lacks (hit ∷ hits) = rw (bare_empty hit lacks, some_bare lacks hits) refl

some_barred : (users : List Wanted) → list_any (λ user. wants_barred (need_wanted user)) users ≡ is_impossible (needs_wanted users)
some_barred [] = refl
some_barred (user ∷ users) =
    rw (some_bare user.lacks (need_wanted user).hits, some_barred users) refl

-- where no user's hit is barred, all is possible, and the other way round
pub possible_is : (users : List Wanted) (barred : Bool) → barred ≡ list_any (λ user. wants_barred (need_wanted user)) users
    → IsTrue (not barred) ↔ IsPossible (needs_wanted users)
possible_is users barred is =
    let same : barred ≡ is_impossible (needs_wanted users) = is ∙ some_barred users in (
      λ e. not_possible (needs_wanted users) (sym same ∙ not_false barred (λ b. not_true barred e b)),
      λ p. let none : barred ≡ false = same ∙ possible_not (needs_wanted users) p in rw none refl,
    )

-- an item put in its place

up : (n : ℕ) → 1 + n ≡ suc n
up n = omega arith

-- an item put in behind those that are before it is inserted in order
pub insert_front : {A : Type 0} (before : A → A → Bool) (x : A) (ys : List A)
    → insert ys (prefix_len (λ y. before y x) ys) x ≡ insert_by before x ys
insert_front before x [] = refl
insert_front {A} before x (y ∷ ys) = by_test (before y x) (insert_front before x ys)
  where
    by_test : (t : Bool) → insert ys (prefix_len (λ z. before z x) ys) x ≡ insert_by before x ys
        → insert (y ∷ ys) (cond t (1 + prefix_len (λ z. before z x) ys) 0) x ≡ cond t (y ∷ insert_by before x ys) (x ∷ y ∷ ys)
    by_test true rest = rw (up (prefix_len (λ z. before z x) ys)) (ap (λ (zs : List A). y ∷ zs) rest)
    by_test false rest = refl

-- the same, where an equal item is not repeated, and the one there is no equal one
pub insert_new : {A : Type 0} (before : A → A → Bool) (x : A) (ys : List A)
    → ((y : A) → slice_get ys (prefix_len (λ z. before z x) ys) ≡ Some y → before x y ≡ true)
    → insert ys (prefix_len (λ y. before y x) ys) x ≡ insert_once before x ys
insert_new before x [] after = refl
insert_new {A} before x (y ∷ ys) after = by_test (before y x) after (insert_new before x ys)
  where
    by_test : (t : Bool) → ((z : A) → slice_get (y ∷ ys) (cond t (1 + prefix_len (λ z. before z x) ys) 0) ≡ Some z → before x z ≡ true)
        → (((z : A) → slice_get ys (prefix_len (λ z. before z x) ys) ≡ Some z → before x z ≡ true)
        → insert ys (prefix_len (λ z. before z x) ys) x ≡ insert_once before x ys)
        → insert (y ∷ ys) (cond t (1 + prefix_len (λ z. before z x) ys) 0) x
        ≡ cond t (y ∷ insert_once before x ys) (cond (before x y) (x ∷ y ∷ ys) (y ∷ ys))
    by_test true next rest =
        rw (up (prefix_len (λ z. before z x) ys)) (ap (λ (zs : List A). y ∷ zs) (rest (λ z e. next z (rw (up (prefix_len (λ z. before z x) ys)) e))))
    by_test false next rest = rw (next y refl) refl

-- and where the one there is equal, nothing is put in
pub insert_kept : {A : Type 0} (before : A → A → Bool) (x : A) (ys : List A) (y : A) → slice_get ys (prefix_len (λ z. before z x) ys) ≡ Some y
    → before x y ≡ false → ys ≡ insert_once before x ys
insert_kept before x [] y e after = cc
insert_kept {A} before x (z ∷ zs) y e after = by_test (before z x) e (λ here. insert_kept before x zs y here after)
  where
    by_test : (t : Bool) → slice_get (z ∷ zs) (cond t (1 + prefix_len (λ v. before v x) zs) 0) ≡ Some y
        → (slice_get zs (prefix_len (λ v. before v x) zs) ≡ Some y → zs ≡ insert_once before x zs)
        → z ∷ zs ≡ cond t (z ∷ insert_once before x zs) (cond (before x z) (x ∷ z ∷ zs) (z ∷ zs))
    by_test true here rest = ap (λ (vs : List A). z ∷ vs) (rest (rw (up (prefix_len (λ v. before v x) zs)) at here))
    by_test false here rest = let same : z ≡ y = same_some z y here in rw (same, after) refl

-- the least hits from a place on

-- the list from a place on begins with the item there
pub drop_here : {A : Type 0} (xs : List A) (i : ℕ) (x : A) → slice_get xs i ≡ Some x → drop i xs ≡ x ∷ drop (suc i) xs
drop_here [] i x e = cc
drop_here (y ∷ ys) zero x e = let same : y ≡ x = cc in rw same refl
drop_here (y ∷ ys) (suc i) x e = drop_here ys i x e

-- one hit more, from the last one on, is put in unless it is bad
pub sorted_step : {A : Type 0} (before : A → A → Bool) (bad : A → Bool) (xs : List A) (i j : ℕ) (x : A) → j ≡ suc i → slice_get xs i ≡ Some x
    → cond (bad x) (sort_once before (filter (λ y. not (bad y)) (drop j xs)))
    (insert_once before x (sort_once before (filter (λ y. not (bad y)) (drop j xs))))
    ≡ sort_once before (filter (λ y. not (bad y)) (drop i xs))
sorted_step {A} before bad xs i j x next e = rw (next, drop_here xs i x e) (by_test (bad x))
  where
    rest : List A
    rest = filter (λ y. not (bad y)) (drop (suc i) xs)

    by_test : (t : Bool) → cond t (sort_once before rest) (insert_once before x (sort_once before rest)) ≡ sort_once before (cond (not t) (x ∷ rest) rest)
    by_test true = refl
    by_test false = refl
