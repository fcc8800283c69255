-- What is in a set after a change, and sets that have the same roles.
use Rattle.std.proofs.Common.{ℕ, ◌≡◌, ◌+◌, ◌<◌, ◌≤◌, Bool, true, false, ◌||◌, ◌&&◌, cond, eqb, ltb, List, [], ◌∷◌, refl}
use Rattle.std.proofs.Common.{arith, zero, suc, ap, sym, ◌∙◌, subst}
use Rattle.std.specs.Prelude.{◌==◌, filter}
use Rattle.std.proofs.lemmas.Bool.{ne_eqb, eq-eqb, eqb-true, false≢true}
use Rattle.std.proofs.lemmas.Bool.Decides.{nat_tests}
use Rattle.list_words.specs.Lists.{Each}
use Rattle.role_order.specs.Roles.{has_role, with_role, join_roles, Rises}
use Rattle.role_order.specs.Reach.{count_up}
use Rattle.list_words.proofs.EachLemmas.{each_weaker}

pub has_role-with_role : (xs : List ℕ) (r q : ℕ) → has_role (with_role xs r) q ≡ ((r == q) || has_role xs q)
has_role-with_role [] r q = refl
has_role-with_role (x ∷ xs) r q = by_order (ltb r x) (eqb x r) refl refl (has_role-with_role xs r q)
  where
    by_order : (below same : Bool) → ltb r x ≡ below → eqb x r ≡ same → has_role (with_role xs r) q ≡ ((r == q) || has_role xs q)
        → has_role (with_role (x ∷ xs) r) q ≡ ((r == q) || has_role (x ∷ xs) q)
    by_order true same b s rest = rw b
    by_order false true b s rest = let e : x ≡ r = eqb-true x r s in rw (b, s, e) (twice (eqb r q) (has_role xs q))
      where
        twice : (t u : Bool) → (t || u) ≡ (t || (t || u))
        twice true u = refl
        twice false u = refl
    by_order false false b s rest = rw (b, s, rest) (swapped (eqb x q) (eqb r q) (has_role xs q))
      where
        swapped : (t u v : Bool) → (t || (u || v)) ≡ (u || (t || v))
        swapped true true v = refl
        swapped true false v = refl
        swapped false u v = refl

pub has_role-join_roles : (xs ys : List ℕ) (q : ℕ) → has_role (join_roles xs ys) q ≡ (has_role xs q || has_role ys q)
has_role-join_roles [] ys q = refl
has_role-join_roles (x ∷ xs) ys q =
    has_role-with_role (join_roles xs ys) x q ∙ ap (λ t. eqb x q || t) (has_role-join_roles xs ys q) ∙ regrouped (eqb x q) (has_role xs q) (has_role ys q)
  where
    regrouped : (t u v : Bool) → (t || (u || v)) ≡ ((t || u) || v)
    regrouped true u v = refl
    regrouped false u v = refl

pub has_role-filter : (p : ℕ → Bool) (xs : List ℕ) (q : ℕ) → has_role (filter p xs) q ≡ (has_role xs q && p q)
has_role-filter p [] q = refl
has_role-filter p (x ∷ xs) q = by_test (p x) refl (eqb x q) refl (has_role-filter p xs q)
  where
    by_test : (t : Bool) → p x ≡ t → (s : Bool) → eqb x q ≡ s → has_role (filter p xs) q ≡ (has_role xs q && p q)
        → has_role (cond t (x ∷ filter p xs) (filter p xs)) q ≡ ((eqb x q || has_role xs q) && p q)
    by_test true h true e rest = let same : x ≡ q = eqb-true x q e in let passes : p q ≡ true = rw same at h in rw (e, passes) refl
    by_test true h false e rest = rw e rest
    by_test false h true e rest =
        let same : x ≡ q = eqb-true x q e in let fails : p q ≡ false = rw same at h in rw (e, fails) (rest ∙ rw fails (ended (has_role xs q)))
      where
        ended : (b : Bool) → (b && false) ≡ false
        ended true = refl
        ended false = refl
    by_test false h false e rest = rw e rest

pub each-filter : (P : ℕ → Type 0) (p : ℕ → Bool) (xs : List ℕ) → Each P xs → Each P (filter p xs)
each-filter P p [] h = tt
each-filter P p (x ∷ xs) h =
    elim (p x) as (λ t. Each P (cond t (x ∷ filter p xs) (filter p xs))) [ true ↦ (h.0, each-filter P p xs h.1) | false ↦ each-filter P p xs h.1 ]

pub rises-filter : (p : ℕ → Bool) (xs : List ℕ) → Rises xs → Rises (filter p xs)
rises-filter p [] h = tt
rises-filter p (x ∷ xs) h =
    elim (p x) as (λ t. Rises (cond t (x ∷ filter p xs) (filter p xs))) [
      | true ↦ (each-filter (λ y. x < y) p xs h.0, rises-filter p xs h.1)
      | false ↦ rises-filter p xs h.1
    ]

pub each-with_role : (P : ℕ → Type 0) (xs : List ℕ) (r : ℕ) → Each P xs → P r → Each P (with_role xs r)
each-with_role P [] r h p = (p, tt)
each-with_role P (x ∷ xs) r h p = by_order (ltb r x) (eqb x r) (each-with_role P xs r h.1 p)
  where
    by_order : (s t : Bool) → Each P (with_role xs r) → Each P (cond s (r ∷ x ∷ xs) (cond t (x ∷ xs) (x ∷ with_role xs r)))
    by_order true t rest = (p, h)
    by_order false true rest = h
    by_order false false rest = (h.0, rest)

pub rises-with_role : (xs : List ℕ) (r : ℕ) → Rises xs → Rises (with_role xs r)
rises-with_role [] r h = (tt, tt)
rises-with_role (x ∷ xs) r h = by_order (ltb r x) refl (eqb x r) refl (rises-with_role xs r h.1)
  where
    by_order : (s : Bool) → ltb r x ≡ s → (t : Bool) → eqb x r ≡ t → Rises (with_role xs r)
        → Rises (cond s (r ∷ x ∷ xs) (cond t (x ∷ xs) (x ∷ with_role xs r)))
    by_order true b t e rest =
        let below : r < x = grind (arith, nat_tests) in
        ((below, each_weaker (λ y. x < y) (λ y. r < y) (λ y l. omega arith) xs h.0), h)
    by_order false b true e rest = h
    by_order false b false e rest =
        let above : x < r = grind (arith, nat_tests) in
        (each-with_role (λ y. x < y) xs r h.0 above, rest)

pub rises-join_roles : (xs ys : List ℕ) → Rises ys → Rises (join_roles xs ys)
rises-join_roles [] ys h = h
rises-join_roles (x ∷ xs) ys h = rises-with_role (join_roles xs ys) x (rises-join_roles xs ys h)

pub count_up_from : (low at n : ℕ) → low ≤ at → Each (λ y. low ≤ y) (count_up at n)
count_up_from low at zero h = tt
count_up_from low at (suc n) h = (h, count_up_from low (at + 1) n (omega arith))

pub rises-count_up : (at n : ℕ) → Rises (count_up at n)
rises-count_up at zero = tt
rises-count_up at (suc n) = (
  each_weaker (λ y. at + 1 ≤ y) (λ y. at < y) (λ y l. omega arith) (count_up (at + 1) n) (count_up_from (at + 1) (at + 1) n (omega arith)),
  rises-count_up (at + 1) n,
)

-- the numbers counted up are those from the first on, so many of them
pub has_role-count_up : (at n q : ℕ) → at ≤ q → q < at + n → has_role (count_up at n) q ≡ true
has_role-count_up at zero q l m = absurd (omega arith)
has_role-count_up at (suc n) q l m = by_place (eqb at q) refl (λ k. has_role-count_up (at + 1) n q (omega (arith, k)) (omega arith))
  where
    by_place : (t : Bool) → eqb at q ≡ t → (at < q → has_role (count_up (at + 1) n) q ≡ true)
        → (eqb at q || has_role (count_up (at + 1) n) q) ≡ true
    by_place true e rest = rw e refl
    by_place false e rest = let other : at < q = grind (arith, nat_tests) in rw e (rest other)

pub has_role-above : (x : ℕ) (xs : List ℕ) → Each (λ y. x < y) xs → has_role xs x ≡ false
has_role-above x [] h = refl
has_role-above x (y ∷ ys) h = let ne : eqb y x ≡ false = ne_eqb y x (λ e. omega (arith, h.0)) in rw ne (has_role-above x ys h.1)

pub has_role-below : (q x : ℕ) (xs : List ℕ) → q < x → Each (λ y. x < y) xs → has_role (x ∷ xs) q ≡ false
has_role-below q x xs l h =
    let ne : eqb x q ≡ false = ne_eqb x q (λ e. omega arith) in
    rw ne (has_role-above q xs (each_weaker (λ y. x < y) (λ y. q < y) (λ y m. omega arith) xs h))

-- rising lists with the same roles are equal
pub same_set : (xs ys : List ℕ) → Rises xs → Rises ys → ((q : ℕ) → has_role xs q ≡ has_role ys q) → xs ≡ ys
same_set [] [] rx ry h = refl
same_set [] (y ∷ ys) rx ry h = absurd (false≢true (h y ∙ rw (eq-eqb y y refl) refl))
same_set (x ∷ xs) [] rx ry h = absurd (false≢true (sym (h x) ∙ rw (eq-eqb x x refl) refl))
same_set (x ∷ xs) (y ∷ ys) rx ry h = by_order (ltb x y) refl (ltb y x) refl (same_set xs ys rx.1 ry.1)
  where
    by_order : (s : Bool) → ltb x y ≡ s → (t : Bool) → ltb y x ≡ t → (((q : ℕ) → has_role xs q ≡ has_role ys q) → xs ≡ ys)
        → x ∷ xs ≡ y ∷ ys
    by_order true b t d rest =
        let below : x < y = grind (arith, nat_tests) in
        absurd (false≢true (sym (has_role-below x y ys below ry.0) ∙ sym (h x) ∙ rw (eq-eqb x x refl) refl))
    by_order false b true d rest =
        let below : y < x = grind (arith, nat_tests) in
        absurd (false≢true (sym (has_role-below y x xs below rx.0) ∙ h y ∙ rw (eq-eqb y y refl) refl))
    by_order false b false d rest =
        let same : x ≡ y = grind (arith, nat_tests) in
        let tails : xs ≡ ys = rest (λ q. tail q (eqb x q) refl) in cc
      where
        tail : (q : ℕ) (t : Bool) → eqb x q ≡ t → has_role xs q ≡ has_role ys q
        tail q true e =
            let at : x ≡ q = eqb-true x q e in
            let same : x ≡ y = grind (arith, nat_tests) in
            subst (λ v. has_role xs v ≡ has_role ys v) at
            (has_role-above x xs rx.0 ∙ sym (subst (λ v. has_role ys v ≡ false) (sym same) (has_role-above y ys ry.0)))
        tail q false e =
            let same : x ≡ y = grind (arith, nat_tests) in
            let e' : eqb y q ≡ false = subst (λ v. eqb v q ≡ false) same e in
            let both : (eqb x q || has_role xs q) ≡ (eqb y q || has_role ys q) = h q in
            rw (e, e') at both
