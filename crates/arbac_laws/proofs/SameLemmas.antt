-- Cover in both directions makes normal forms equal.
use Rattle.std.proofs.Common.{ℕ, ◌≡◌, ◌≤◌, ◌+◌, List, [], ◌∷◌, arith, sym, ◌∙◌, ap, eqb, Bool, true, false, not, ◌&&◌, cond}
use Rattle.std.proofs.Common.{subst, refl, inl, inr}
use Rattle.std.specs.Prelude.{◌⊎◌}
use Rattle.std.proofs.lemmas.Bool.{eqb-true, eq-eqb}
use Rattle.std.specs.List.{list_any, list_all}
use Rattle.list_words.proofs.TestLemmas.{and_both, both_true, or_cases, or_right, not_false, not_true, same_test}
use Rattle.list_words.specs.Lists.{Each, Some_of}
use Rattle.role_order.specs.Roles.{AreApart, IsIn, IsOut, IsWithin, has_role, is_within, less_roles}
use Rattle.arbac_laws.specs.Needs.{Covers, CoversNeed, Need}
use Rattle.arbac_laws.specs.NormalForms.{IsNormal, IsNormalNeed}
use Rattle.role_order.specs.Orders.{set_before}
use Rattle.arbac_laws.specs.Orders.{need_before}
use Rattle.arbac_laws.proofs.CountLemmas.{embeds_with}
use Rattle.list_words.proofs.CountLemmas.{counted, count}
use Rattle.arbac_laws.proofs.CoverLemmas.{covers_itself, covers_need}
use Rattle.list_words.proofs.EachLemmas.{each_own, each_some, each_weaker, some_each}
use Rattle.arbac_laws.proofs.OrderLemmas.{need_order}
use Rattle.list_words.proofs.OrderLemmas.{AreIn, is_same, rising_same, same_itself, sorted_same, total_strict}
use Rattle.role_order.proofs.OrderLemmas.{set_order}
use Rattle.arbac_laws.proofs.RoleLemmas.{cases_in, in_less}
use Rattle.role_order.specs.Roles.{Rises}
use Rattle.role_order.proofs.SetLemmas.{same_set}

-- tests

pub within_is : (xs ys : List ℕ) → is_within xs ys ≡ true → IsWithin xs ys
within_is [] ys h role k = cc
within_is (x ∷ xs) ys h role k =
    let b = and_both (has_role ys x) (is_within xs ys) h in by_case (or_cases (eqb x role) (has_role xs role) k) b.0 (within_is xs ys b.1 role)
  where
    by_case : (eqb x role ≡ true) ⊎ (has_role xs role ≡ true) → IsIn ys x → (IsIn xs role → IsIn ys role) → IsIn ys role
    by_case (inl e) here rest = subst (λ r. IsIn ys r) (eqb-true x role e) here
    by_case (inr i) here rest = rest i

pub is_within_of : (xs ys : List ℕ) → IsWithin xs ys → is_within xs ys ≡ true
is_within_of [] ys h = refl
is_within_of (x ∷ xs) ys h =
    both_true (has_role ys x) (is_within xs ys) (h x (rw (eq-eqb x x refl) refl))
    (is_within_of xs ys (λ role k. h role (or_right (eqb x role) (has_role xs role) k)))

pub all_each : {A : Type 0} (P : A → Type 0) (p : A → Bool) → ((x : A) → p x ≡ true → P x) → (xs : List A) → list_all p xs ≡ true
    → Each P xs
all_each P p h [] e = tt
all_each P p h (x ∷ xs) e = let b = and_both (p x) (list_all p xs) e in (h x b.0, all_each P p h xs b.1)

pub each_all : {A : Type 0} (P : A → Type 0) (p : A → Bool) → ((x : A) → P x → p x ≡ true) → (xs : List A) → Each P xs
    → list_all p xs ≡ true
each_all P p h [] e = refl
each_all P p h (x ∷ xs) e = both_true (p x) (list_all p xs) (h x e.0) (each_all P p h xs e.1)

pub any_of : {A : Type 0} (P : A → Type 0) (p : A → Bool) → ((x : A) → p x ≡ true → P x) → (xs : List A) → list_any p xs ≡ true
    → Some_of P xs
any_of P p h [] e = cc
any_of P p h (x ∷ xs) e = by_case (or_cases (p x) (list_any p xs) e) (any_of P p h xs)
  where
    by_case : (p x ≡ true) ⊎ (list_any p xs ≡ true) → (list_any p xs ≡ true → Some_of P xs) → Some_of P (x ∷ xs)
    by_case (inl k) rest = inl (h x k)
    by_case (inr k) rest = inr (rest k)

pub of_any : {A : Type 0} (P : A → Type 0) (p : A → Bool) → ((x : A) → P x → p x ≡ true) → (xs : List A) → Some_of P xs
    → list_any p xs ≡ true
of_any P p h [] e = absurd e
of_any P p h (x ∷ xs) (inl k) = rw (h x k) refl
of_any P p h (x ∷ xs) (inr k) = or_right (p x) (list_any p xs) (of_any P p h xs k)

unfoldable pub covers_test : Need → Need → Bool
covers_test a b = list_all (λ hit. list_any (λ other. is_within (less_roles other b.lacks) hit) b.hits) a.hits && is_within a.lacks b.lacks

pub covers_of_test : (a b : Need) → covers_test a b ≡ true → CoversNeed a b
unfolding covers_test
covers_of_test a b h =
    let t = and_both (list_all (λ hit. list_any (λ other. is_within (less_roles other b.lacks) hit) b.hits) a.hits) (is_within a.lacks b.lacks) h in
    record {
      hits = all_each (λ hit. Some_of (λ other. IsWithin (less_roles other b.lacks) hit) b.hits)
          (λ hit. list_any (λ other. is_within (less_roles other b.lacks) hit) b.hits)
          (λ hit k. any_of (λ other. IsWithin (less_roles other b.lacks) hit) (λ other. is_within (less_roles other b.lacks) hit)
          (λ other e. within_is (less_roles other b.lacks) hit e) b.hits k) a.hits t.0;
      lacks = within_is a.lacks b.lacks t.1;
    }

pub test_of_covers : (a b : Need) → CoversNeed a b → covers_test a b ≡ true
unfolding covers_test
test_of_covers a b c = both_true (list_all (λ hit. list_any (λ other. is_within (less_roles other b.lacks) hit) b.hits) a.hits) (is_within a.lacks b.lacks)
    (each_all (λ hit. Some_of (λ other. IsWithin (less_roles other b.lacks) hit) b.hits)
    (λ hit. list_any (λ other. is_within (less_roles other b.lacks) hit) b.hits)
    (λ hit k. of_any (λ other. IsWithin (less_roles other b.lacks) hit) (λ other. is_within (less_roles other b.lacks) hit)
    (λ other e. is_within_of (less_roles other b.lacks) hit e) b.hits k) a.hits c.hits)
    (is_within_of a.lacks b.lacks c.lacks)

-- rising sets with the same roles are one

pub in_is : (xs ys : List ℕ) → IsWithin xs ys → AreIn xs ys
in_is [] ys h = tt
in_is (x ∷ xs) ys h = (found ys x (h x (rw (eq-eqb x x refl) refl)), in_is xs ys (λ role k. h role (or_right (eqb x role) (has_role xs role) k)))
  where
    found : (ys : List ℕ) (x : ℕ) → IsIn ys x → Some_of (λ (y : ℕ). y ≡ x) ys
    found [] x k = cc
    found (y ∷ ys) x k = by_case (or_cases (eqb y x) (has_role ys x) k) (found ys x)
      where
        by_case : (eqb y x ≡ true) ⊎ (has_role ys x ≡ true) → (IsIn ys x → Some_of (λ (v : ℕ). v ≡ x) ys)
            → Some_of (λ (v : ℕ). v ≡ x) (y ∷ ys)
        by_case (inl e) rest = inl (eqb-true y x e)
        by_case (inr i) rest = inr (rest i)

pub same_roles : (xs ys : List ℕ) → Rises xs → Rises ys → IsWithin xs ys → IsWithin ys xs → xs ≡ ys
same_roles xs ys r s h k = same_set xs ys r s (λ q. same_test (has_role xs q) (has_role ys q) (h q) (k q))

-- one need

-- a hit of the first is one of the second
pub hit_is_hit : (a b : Need) → IsNormalNeed a → IsNormalNeed b → CoversNeed a b → CoversNeed b a → AreIn a.hits b.hits
hit_is_hit a b m n f g =
    each_weaker (λ h. Some_of (λ (k : List ℕ). k ≡ h) a.hits × Some_of (λ other. IsWithin (less_roles other b.lacks) h) b.hits)
    (λ h. Some_of (λ (k : List ℕ). k ≡ h) b.hits)
    (λ h own. one h own.0 own.1) a.hits (each_own (λ h. Some_of (λ other. IsWithin (less_roles other b.lacks) h) b.hits) a.hits f.hits)
  where
    -- without the lacks, which a normal hit has none of
    bare : (c : Need) → IsNormalNeed c → (k h : List ℕ) → Some_of (λ (v : List ℕ). v ≡ k) c.hits → IsWithin (less_roles k c.lacks) h
        → IsWithin k h
    bare c n k h i w role held = w role (in_less k c.lacks role held (out (cases_in c.lacks role)))
      where
        out : IsIn c.lacks role ⊎ IsOut c.lacks role → IsOut c.lacks role
        out (inl l) = absurd (each_some (λ hit. AreApart c.lacks hit) c.hits k n.bare i role l held)
        out (inr o) = o

    one : (h : List ℕ) → Some_of (λ (k : List ℕ). k ≡ h) a.hits → Some_of (λ other. IsWithin (less_roles other b.lacks) h) b.hits
        → Some_of (λ (k : List ℕ). k ≡ h) b.hits
    one h i within =
        some_each (λ other. IsWithin (less_roles other b.lacks) h) (λ k. Some_of (λ (v : List ℕ). v ≡ k) b.hits
        × Some_of (λ other. IsWithin (less_roles other a.lacks) k) a.hits)
        (Some_of (λ (k : List ℕ). k ≡ h) b.hits)
        (λ k w own.
        let below : IsWithin k h = bare b n k h own.0 w in
        let above : IsWithin h k =
        some_each (λ other. IsWithin (less_roles other a.lacks) k) (λ l. Some_of (λ (v : List ℕ). v ≡ l) a.hits × Unit {0}) (IsWithin h k)
        (λ l u o.
        let under : IsWithin l k = bare a m l k o.0 u in
        let same : l ≡ h = each_some (λ other. IsWithin other h → other ≡ h) a.hits l
        (each_some (λ hit. Each (λ other. IsWithin other hit → other ≡ hit) a.hits) a.hits h m.least i) o.0
        (λ role held. below role (under role held)) in
        subst (λ v. IsWithin v k) same under)
        a.hits own.1 (each_own (λ l. Unit {0}) a.hits (units a.hits)) in
        let same : k ≡ h = same_roles k h (each_some Rises b.hits k n.rising own.0) (each_some Rises a.hits h m.rising i) below above in
        subst (λ v. Some_of (λ (k : List ℕ). k ≡ v) b.hits) same own.0)
        b.hits within (each_own (λ k. Some_of (λ other. IsWithin (less_roles other a.lacks) k) a.hits) b.hits g.hits)
      where
        units : (xs : List (List ℕ)) → Each (λ l. Unit {0}) xs
        units [] = tt
        units (x ∷ xs) = (tt, units xs)

pub same_need : (a b : Need) → IsNormalNeed a → IsNormalNeed b → CoversNeed a b → CoversNeed b a → a ≡ b
same_need a b m n f g =
    let strict = total_strict set_before set_order in
    let hits : a.hits ≡ b.hits = rising_same set_before strict a.hits b.hits m.sorted n.sorted (hit_is_hit a b m n f g) (hit_is_hit b a n m g f) in
    let lacks : a.lacks ≡ b.lacks = same_roles a.lacks b.lacks m.lacks n.lacks f.lacks g.lacks in
    ap (λ (h : List (List ℕ)). let c : Need = record { hits = h; lacks = a.lacks } in c) hits
    ∙ ap (λ (l : List ℕ). let c : Need = record { hits = b.hits; lacks = l } in c) lacks

-- lists of needs

abbrev pub above : Need → Need → Bool
above w v = covers_test w v

abbrev pub beyond : Need → Need → Bool
beyond w v = covers_test w v && not (is_same need_before w v)

pub same_is : (v w : Need) → is_same need_before w v ≡ true → w ≡ v
same_is v w h =
    let b = and_both (not (need_before w v)) (not (need_before v w)) h in by_total (need_order.total w v) b.0 b.1
  where
    by_total : (need_before w v ≡ true) ⊎ ((w ≡ v) ⊎ (need_before v w ≡ true)) → not (need_before w v) ≡ true → not (need_before v w) ≡ true
        → w ≡ v
    by_total (inl k) n m = absurd (not_true (need_before w v) n k)
    by_total (inr (inl e)) n m = e
    by_total (inr (inr k)) n m = absurd (not_true (need_before v w) m k)

-- what stands above a need is it or stands beyond it
pub count_parts : (w : Need) (xs : List Need) → count (above w) xs ≡ count (is_same need_before w) xs + count (beyond w) xs
count_parts w [] = refl
count_parts w (v ∷ xs) = by_tests (covers_test w v) (is_same need_before w v) refl refl (count_parts w xs)
  where
    by_tests : (s t : Bool) → covers_test w v ≡ s → is_same need_before w v ≡ t → count (above w) xs ≡ count (is_same need_before w) xs + count
        (beyond w) xs
        → cond s 1 0 + count (above w) xs ≡ (cond t 1 0 + count (is_same need_before w) xs) + (cond (s && not t) 1 0 + count (beyond w) xs)
    by_tests true true s t rest = omega arith
    by_tests true false s t rest = omega arith
    by_tests false false s t rest = omega arith
    by_tests false true s t rest =
        let e : w ≡ v = same_is v w t in
        let k : covers_test w v ≡ true = test_of_covers w v (subst (λ u. CoversNeed w u) e (covers_itself w)) in cc

pub fewer : (w : Need) → IsNormalNeed w → (xs ys : List Need) → Each IsNormalNeed xs → Each IsNormalNeed ys → Covers xs ys
    → (count (above w) xs ≤ count (above w) ys) × (count (beyond w) xs ≤ count (beyond w) ys)
fewer w normal xs ys m n f =
    let with_normal = embeds_with CoversNeed IsNormalNeed IsNormalNeed xs ys m n f in (
      counted CoversNeed (above w) (above w) (λ x y c h. test_of_covers w y (covers_need w x y (covers_of_test w x h) c)) xs ys f,
      counted (λ x y. IsNormalNeed x × IsNormalNeed y × CoversNeed x y) (beyond w) (beyond w) (λ x y c h. further x y c.0 c.1 c.2 h) xs ys with_normal,
    )
  where
    further : (x y : Need) → IsNormalNeed x → IsNormalNeed y → CoversNeed x y → beyond w x ≡ true → beyond w y ≡ true
    further x y mx ny c h =
        let b = and_both (covers_test w x) (not (is_same need_before w x)) h in
        let wx = covers_of_test w x b.0 in
        both_true (covers_test w y) (not (is_same need_before w y)) (test_of_covers w y (covers_need w x y wx c))
        (rw (not_false (is_same need_before w y) (differ wx b.1)) refl)
      where
        differ : CoversNeed w x → not (is_same need_before w x) ≡ true → is_same need_before w y ≡ true → ⊥
        differ wx n e =
            let wy : w ≡ y = same_is y w e in
            let xw : CoversNeed x w = subst (λ v. CoversNeed x v) (sym wy) c in
            let same : w ≡ x = same_need w x normal mx wx xw in
            not_true (is_same need_before w x) n (subst (λ v. is_same need_before w v ≡ true) same (same_itself need_before need_order w))

pub count_same : (w : Need) → IsNormalNeed w → (a b : List Need) → Each IsNormalNeed a → Each IsNormalNeed b → Covers a b → Covers b a
    → count (is_same need_before w) a ≡ count (is_same need_before w) b
count_same w normal a b m n f g =
    let one = fewer w normal a b m n f in
    let two = fewer w normal b a n m g in
    let pa = count_parts w a in
    let pb = count_parts w b in
    omega (arith, one.0, one.1, two.0, two.1, pa, pb)

pub same_needs : (a b : List Need) → IsNormal a → IsNormal b → Covers a b → Covers b a → a ≡ b
same_needs a b m n f g =
    sorted_same IsNormalNeed need_before need_order a b m.each n.each m.sorted n.sorted (λ w normal. count_same w normal a b m.each n.each f g)
