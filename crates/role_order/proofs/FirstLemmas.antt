-- Tests of whole sets, the least role from a number on, and which of two sets comes first.
use Rattle.std.proofs.Common.{ℕ, ◌≡◌, ◌<◌, ◌≤◌, Bool, true, false, not, ◌||◌, ◌&&◌, cond, eqb, ltb, leb, List, [], ◌∷◌, refl}
use Rattle.std.proofs.Common.{arith, ap, sym, ◌∙◌, subst, inl, inr, Some, None}
use Rattle.std.specs.Prelude.{◌⊎◌, filter, is_some, nat_lt, slice_get}
use Rattle.std.specs.List.{list_any, list_all}
use Rattle.std.proofs.lemmas.Bool.{ne_eqb, eq-eqb, eqb-true, false≢true}
use Rattle.std.proofs.lemmas.Bool.Decides.{nat_tests}
use Rattle.role_order.specs.Orders.{set_before}
use Rattle.role_order.specs.Roles.{has_role, without_role, first_from, differ, Rises, IsFirstFrom}
use Rattle.role_order.proofs.SetLemmas.{has_role-above, has_role-below, has_role-filter, rises-filter, same_set}
use Rattle.role_order.proofs.OrderLemmas.{set_order}
use Rattle.list_words.proofs.TestLemmas.{same_test, not_false}
use Rattle.list_words.proofs.OrderLemmas.{not_both}

-- each item passes where none is left that fails
pub list_all-none_fails : (p : ℕ → Bool) (xs : List ℕ) → filter (λ x. not (p x)) xs ≡ [] → list_all p xs ≡ true
list_all-none_fails p [] e = refl
list_all-none_fails p (x ∷ xs) e = by_test (p x) (list_all-none_fails p xs) e
  where
    by_test : (t : Bool) → (filter (λ x. not (p x)) xs ≡ [] → list_all p xs ≡ true)
        → cond (not t) (x ∷ filter (λ x. not (p x)) xs) (filter (λ x. not (p x)) xs) ≡ [] → (t && list_all p xs) ≡ true
    by_test true rest e = rest e
    by_test false rest e = cc

pub none_fails : (p : ℕ → Bool) (xs : List ℕ) → list_all p xs ≡ true → filter (λ x. not (p x)) xs ≡ []
none_fails p [] e = refl
none_fails p (x ∷ xs) e = by_test (p x) (none_fails p xs) e
  where
    by_test : (t : Bool) → (list_all p xs ≡ true → filter (λ x. not (p x)) xs ≡ []) → (t && list_all p xs) ≡ true
        → cond (not t) (x ∷ filter (λ x. not (p x)) xs) (filter (λ x. not (p x)) xs) ≡ []
    by_test true rest e = rest e
    by_test false rest e = cc

-- no item passes where none is left that does
pub list_any-none_passes : (p : ℕ → Bool) (xs : List ℕ) → filter p xs ≡ [] → list_any p xs ≡ false
list_any-none_passes p [] e = refl
list_any-none_passes p (x ∷ xs) e = by_test (p x) (list_any-none_passes p xs) e
  where
    by_test : (t : Bool) → (filter p xs ≡ [] → list_any p xs ≡ false) → cond t (x ∷ filter p xs) (filter p xs) ≡ []
        → (t || list_any p xs) ≡ false
    by_test true rest e = cc
    by_test false rest e = rest e

pub none_passes : (p : ℕ → Bool) (xs : List ℕ) → list_any p xs ≡ false → filter p xs ≡ []
none_passes p [] e = refl
none_passes p (x ∷ xs) e = by_test (p x) (none_passes p xs) e
  where
    by_test : (t : Bool) → (list_any p xs ≡ false → filter p xs ≡ []) → (t || list_any p xs) ≡ false
        → cond t (x ∷ filter p xs) (filter p xs) ≡ []
    by_test true rest e = cc
    by_test false rest e = rest e

-- a test that passes where no item fails is the test of all
pub is_list_all : (p : ℕ → Bool) (xs : List ℕ) (t : Bool) → (t ≡ true → filter (λ x. not (p x)) xs ≡ [])
    → (filter (λ x. not (p x)) xs ≡ [] → t ≡ true) → t ≡ list_all p xs
is_list_all p xs t to from = same_test t (list_all p xs) (λ h. list_all-none_fails p xs (to h)) (λ h. from (none_fails p xs h))

-- a test that passes where no item does is the opposite of the test of some
pub is_list_any : (p : ℕ → Bool) (xs : List ℕ) (t : Bool) → (t ≡ true → filter p xs ≡ []) → (filter p xs ≡ [] → t ≡ true)
    → not t ≡ list_any p xs
is_list_any p xs true to from = sym (list_any-none_passes p xs (to refl))
is_list_any p xs false to from = by_some (list_any p xs) refl
  where
    by_some : (s : Bool) → list_any p xs ≡ s → true ≡ list_any p xs
    by_some true h = sym h
    by_some false h = absurd (false≢true (from (none_passes p xs h)))

-- ---- the least role from a number on

-- a role behind the head is one of the others
behind_head : (x : ℕ) (xs : List ℕ) (role : ℕ) → x < role → has_role (x ∷ xs) role ≡ true → has_role xs role ≡ true
behind_head x xs role l h = let other : eqb x role ≡ false = ne_eqb x role (λ e. omega (arith, e)) in rw other at h

pub first_from_is : (xs : List ℕ) (from role : ℕ) → Rises xs → IsFirstFrom xs from role → first_from xs from ≡ Some role
first_from_is [] from role rises first = absurd (false≢true first.there)
first_from_is (x ∷ xs) from role rises first = by_head (leb from x) refl (ltb x role) refl (first_from_is xs from role rises.1)
  where
    by_head : (s : Bool) → leb from x ≡ s → (t : Bool) → ltb x role ≡ t → (IsFirstFrom xs from role → first_from xs from ≡ Some role)
        → cond s (Some x) (first_from xs from) ≡ Some role
    by_head true a true b rest =
        let reached : from ≤ x = grind (arith, nat_tests) in
        let less : x < role = grind (arith, nat_tests) in
        absurd (false≢true (sym (first.none_between x reached less) ∙ rw (eq-eqb x x refl) refl))
    by_head true a false b rest = ap Some (at_head (eqb x role) refl)
      where
        at_head : (t : Bool) → eqb x role ≡ t → x ≡ role
        at_head true e = eqb-true x role e
        at_head false e = let below : role < x = grind (arith, nat_tests) in
            absurd (false≢true (sym (has_role-below role x xs below rises.0) ∙ first.there))
    by_head false a true b rest =
        let less : x < role = grind (arith, nat_tests) in
        rest record {
          there = behind_head x xs role less first.there;
          reached = first.reached;
          none_between = λ other l m.
              let below : x < from = grind (arith, nat_tests) in
              let apart : eqb x other ≡ false = ne_eqb x other (λ e. omega arith) in
              rw apart at (first.none_between other l m);
        }
    by_head false a false b rest = let l = first.reached in absurd (grind (arith, nat_tests))

pub first_from_none : (xs : List ℕ) (from : ℕ) → ((role : ℕ) → from ≤ role → has_role xs role ≡ false) → first_from xs from ≡ None
first_from_none [] from h = refl
first_from_none (x ∷ xs) from h = by_head (leb from x) refl (first_from_none xs from)
  where
    by_head : (s : Bool) → leb from x ≡ s → (((role : ℕ) → from ≤ role → has_role xs role ≡ false) → first_from xs from ≡ None)
        → cond s (Some x) (first_from xs from) ≡ None
    by_head true a rest = let reached : from ≤ x = grind (arith, nat_tests) in absurd (false≢true (sym (h x reached) ∙ rw (eq-eqb x x refl) refl))
    by_head false a rest = rest (λ role l. by_or (eqb x role) (has_role xs role) (h role l))
      where
        by_or : (a b : Bool) → (a || b) ≡ false → b ≡ false
        by_or true b e = cc
        by_or false b e = e

-- from 0 on, it is the first of the list
pub first_from-zero : (xs : List ℕ) → first_from xs 0 ≡ slice_get xs 0
first_from-zero [] = refl
first_from-zero (x ∷ xs) = let all : leb 0 x ≡ true = grind (arith, nat_tests) in rw all refl

-- a rising list without its first role is the others
pub without_role-head : (x : ℕ) (xs : List ℕ) → Rises (x ∷ xs) → without_role (x ∷ xs) x ≡ xs
without_role-head x xs rises =
    same_set (without_role (x ∷ xs) x) xs (rises-filter (λ y. not (eqb y x)) (x ∷ xs) rises) rises.1
    (λ q. has_role-filter (λ y. not (eqb y x)) (x ∷ xs) q ∙ by_place q (eqb x q) refl)
  where
    by_place : (q : ℕ) (t : Bool) → eqb x q ≡ t → ((eqb x q || has_role xs q) && not (eqb q x)) ≡ has_role xs q
    by_place q true e =
        let same : x ≡ q = eqb-true x q e in
        let back : eqb q x ≡ true = eq-eqb q x (sym same) in
        let none : has_role xs q ≡ false = subst (λ v. has_role xs v ≡ false) same (has_role-above x xs rises.0) in
        rw (e, back, none) refl
    by_place q false e =
        let back : eqb q x ≡ false = not_false (eqb q x) (λ h. false≢true (sym e ∙ eq-eqb x q (sym (eqb-true q x h)))) in
        rw (e, back) (kept (has_role xs q))
      where
        kept : (b : Bool) → (b && true) ≡ b
        kept true = refl
        kept false = refl

-- the first role, and the list without it
pub taken_head : (xs : List ℕ) (role : ℕ) (rest : List ℕ) → Rises xs → slice_get xs 0 ≡ Some role → rest ≡ without_role xs role
    → xs ≡ role ∷ rest
taken_head [] role rest rises at e = cc
taken_head (x ∷ xs) role rest rises at e =
    let same : x ≡ role = cc in
    let others : rest ≡ xs = e ∙ subst (λ r. without_role (x ∷ xs) r ≡ xs) same (without_role-head x xs rises) in cc

-- no role is in a list without a first
pub none_at_first : (xs : List ℕ) (role : ℕ) → slice_get xs 0 ≡ None → has_role xs role ≡ false
none_at_first [] role e = refl
none_at_first (x ∷ xs) role e = cc

-- ---- which of two sets comes first

never_less : (x : ℕ) → nat_lt x x ≡ false
never_less x = grind (arith, nat_tests)

-- the first has a role that the second lacks, and below it they agree: it comes first where the second goes on
pub before_where_first_has : (xs ys : List ℕ) (role : ℕ) → Rises xs → Rises ys → ((q : ℕ) → q < role → has_role xs q ≡ has_role ys q)
    → has_role xs role ≡ true → has_role ys role ≡ false → set_before xs ys ≡ is_some (first_from ys role)
before_where_first_has [] ys role rx ry agree h n = absurd (false≢true h)
before_where_first_has (x ∷ xs) [] role rx ry agree h n = refl
before_where_first_has (x ∷ xs) (y ∷ ys) role rx ry agree h n = by_order (ltb x y) refl (ltb y x) refl (before_where_first_has xs ys role rx.1 ry.1)
  where
    not_above : x ≤ role
    not_above = by_test (ltb role x) refl
      where
        by_test : (t : Bool) → ltb role x ≡ t → x ≤ role
        by_test true e = let below : role < x = grind (arith, nat_tests) in absurd (false≢true (sym (has_role-below role x xs below rx.0) ∙ h))
        by_test false e = grind (arith, nat_tests)

    by_order : (s : Bool) → ltb x y ≡ s → (t : Bool) → ltb y x ≡ t
        → (((q : ℕ) → q < role → has_role xs q ≡ has_role ys q) → has_role xs role ≡ true → has_role ys role ≡ false
        → set_before xs ys ≡ is_some (first_from ys role))
        → (s || (not t && set_before xs ys)) ≡ is_some (cond (leb role y) (Some y) (first_from ys role))
    by_order true a t b rest = by_reach (leb role y) refl
      where
        less : x < y
        less = grind (arith, nat_tests)

        by_reach : (r : Bool) → leb role y ≡ r → true ≡ is_some (cond r (Some y) (first_from ys role))
        by_reach true e = refl
        by_reach false e =
            let below : x < role = grind (arith, nat_tests) in
            absurd (false≢true (sym (has_role-below x y ys less ry.0) ∙ sym (agree x below) ∙ rw (eq-eqb x x refl) refl))
    by_order false a true b rest =
        let less : y < x = grind (arith, nat_tests) in
        absurd (false≢true (sym (has_role-below y x xs less rx.0) ∙ agree y (omega (arith, not_above)) ∙ rw (eq-eqb y y refl) refl))
    by_order false a false b rest = by_place (eqb x role) refl
      where
        same : x ≡ y
        same = grind (arith, nat_tests)

        by_place : (t : Bool) → eqb x role ≡ t → set_before xs ys ≡ is_some (cond (leb role y) (Some y) (first_from ys role))
        by_place true e =
            let at : y ≡ role = sym same ∙ eqb-true x role e in
            absurd (false≢true (sym n ∙ rw (eq-eqb y role at) refl))
        by_place false e =
            let below : x < role = let l = not_above in grind (arith, nat_tests) in
            let short : leb role y ≡ false = not_false (leb role y) (λ r. let l : role ≤ y = grind (arith, nat_tests) in omega (arith, same)) in
            rw short (rest tails (behind_head x xs role below h) (rest_lacks (eqb y role) (has_role ys role) n))
          where
            rest_lacks : (a b : Bool) → (a || b) ≡ false → b ≡ false
            rest_lacks true b e = cc
            rest_lacks false b e = e

            tails : (q : ℕ) → q < role → has_role xs q ≡ has_role ys q
            tails q l = by_head (eqb x q) refl (agree q l)
              where
                by_head : (t : Bool) → eqb x q ≡ t → (eqb x q || has_role xs q) ≡ (eqb y q || has_role ys q) → has_role xs q ≡ has_role ys q
                by_head true e both =
                    let at : x ≡ q = eqb-true x q e in
                    subst (λ v. has_role xs v ≡ has_role ys v) at
                    (has_role-above x xs rx.0 ∙ sym (subst (λ v. has_role ys v ≡ false) (sym same) (has_role-above y ys ry.0)))
                by_head false e both =
                    let e' : eqb y q ≡ false = subst (λ v. eqb v q ≡ false) same e in
                    rw (e, e') at both

-- of two different sets one comes first
before_or_behind : (xs ys : List ℕ) → (xs ≡ ys → ⊥) → set_before xs ys ≡ not (set_before ys xs)
before_or_behind xs ys apart = by_total (set_order.total xs ys)
  where
    by_total : (set_before xs ys ≡ true) ⊎ ((xs ≡ ys) ⊎ (set_before ys xs ≡ true)) → set_before xs ys ≡ not (set_before ys xs)
    by_total (inl h) = let no : set_before ys xs ≡ false = not_false (set_before ys xs) (λ k. not_both set_before set_order xs ys h k) in rw (h, no) refl
    by_total (inr (inl e)) = absurd (apart e)
    by_total (inr (inr k)) =
        let no : set_before xs ys ≡ false = not_false (set_before xs ys) (λ h. not_both set_before set_order xs ys h k) in rw (k, no) refl

pub before_where_second_has : (xs ys : List ℕ) (role : ℕ) → Rises xs → Rises ys → ((q : ℕ) → q < role → has_role xs q ≡ has_role ys q)
    → has_role xs role ≡ false → has_role ys role ≡ true → set_before xs ys ≡ not (is_some (first_from xs role))
before_where_second_has xs ys role rx ry agree n h =
    before_or_behind xs ys (λ e. false≢true (sym n ∙ subst (λ zs. has_role zs role ≡ true) (sym e) h))
    ∙ ap not (before_where_first_has ys xs role ry rx (λ q l. sym (agree q l)) h n)

pub not_before_itself : (xs ys : List ℕ) → xs ≡ ys → set_before xs ys ≡ false
not_before_itself xs ys e = not_false (set_before xs ys) (λ h. set_order.never xs (subst (λ zs. set_before xs zs ≡ true) (sym e) h))

-- ---- roles that just one of two sets has

pub differ_not : (a b : Bool) → differ a b ≡ false → a ≡ b
differ_not true true e = refl
differ_not true false e = cc
differ_not false true e = cc
differ_not false false e = refl

pub differ_first : (a b : Bool) → differ a b ≡ true → a ≡ true → b ≡ false
differ_first true true e h = cc
differ_first true false e h = refl
differ_first false b e h = cc

pub differ_second : (a b : Bool) → differ a b ≡ true → a ≡ false → b ≡ true
differ_second true b e h = cc
differ_second false true e h = refl
differ_second false false e h = cc
