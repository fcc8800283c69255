-- The normal form covers the needs and is covered by them.
use Rattle.std.proofs.Common.{ℕ, ◌≡◌, ◌<◌, ◌≤◌, ◌+◌, List, [], ◌∷◌, map, Some, None, arith, zero, suc, sym, ap, Bool, true, false}
use Rattle.std.proofs.Common.{not, cond, subst, refl, inl, inr}
use Rattle.std.specs.Prelude.{◌↔◌}
use Rattle.std.proofs.lemmas.Bool.{eq-eqb}
use Rattle.std.specs.List.{list_any}
use Rattle.list_words.proofs.TestLemmas.{and_both, both_true, or_none, not_false, not_true}
use Rattle.list_words.specs.Lists.{Each, Some_of}
use Rattle.role_order.specs.Roles.{AreApart, IsIn, IsOut, IsWithin, has_role, is_within, less_roles}
use Rattle.arbac_laws.specs.Needs.{Covers, CoversNeed, IsCovered, IsPossible, IsPossibleNeed, Need}
use Rattle.arbac_laws.specs.NormalForms.{AreSets, IsNormal, IsNormalNeed, bare_hits, insert_by, is_impossible, is_less, least_hits, normal_form}
use Rattle.arbac_laws.specs.NormalForms.{normal_need, sort_by}
use Rattle.role_order.specs.Orders.{set_before}
use Rattle.arbac_laws.specs.Orders.{need_before}
use Rattle.arbac_laws.specs.PreImages.{is_empty}
use Rattle.arbac_laws.proofs.CoverLemmas.{covers_itself, covers_transitive}
use Rattle.list_words.proofs.EachLemmas.{each_by, each_some, one_some, some_one, some_weaker}
use Rattle.list_words.proofs.EmbedLemmas.{embeds_front, embeds_itself, embeds_swap}
use Rattle.list_words.proofs.GetLemmas.{some_cond, get_there, get_below}
use Rattle.arbac_laws.proofs.OrderLemmas.{need_order}
use Rattle.list_words.proofs.CountLemmas.{count}
use Rattle.role_order.proofs.OrderLemmas.{set_order}
use Rattle.arbac_laws.proofs.RoleLemmas.{in_less, less_in, less_out}
use Rattle.arbac_laws.proofs.SameLemmas.{any_of, is_within_of, of_any, same_roles, within_is}
use Rattle.arbac_laws.proofs.SortLemmas.{filter_in, in_filter, in_sort, sort_by_in, sort_in, sort_rises, sort_sorted}
use Rattle.role_order.specs.Roles.{Rises}
use Rattle.role_order.proofs.SetLemmas.{rises-filter}
use Rattle.arbac_laws.specs.NormalForms.{normal_form}
use Rattle.arbac_laws.specs.Needs.{Meets, MeetsBy}
use Rattle.list_words.specs.Places.{ArePlaces}
use Rattle.arbac_laws.proofs.CoverLemmas.{covered_met}
use Rattle.std.proofs.Common.{get_or, length, ◌<◌}

-- maps that come of a sort and of a change of each item

pub insert_into : (x : Need) (ys : List Need) → Covers (x ∷ ys) (insert_by need_before x ys)
insert_into x [] = embeds_itself CoversNeed covers_itself (x ∷ [])
insert_into x (y ∷ ys) = by_test (need_before y x) (insert_into x ys)
  where
    by_test : (t : Bool) → Covers (x ∷ ys) (insert_by need_before x ys)
        → Covers (x ∷ y ∷ ys) (cond t (y ∷ insert_by need_before x ys) (x ∷ y ∷ ys))
    by_test false rest = embeds_itself CoversNeed covers_itself (x ∷ y ∷ ys)
    by_test true rest = covers_transitive (x ∷ y ∷ ys) (y ∷ x ∷ ys) (y ∷ insert_by need_before x ys) (embeds_swap CoversNeed covers_itself x y ys)
        (embeds_front CoversNeed y y (x ∷ ys) (insert_by need_before x ys) (covers_itself y) rest)

pub insert_out : (x : Need) (ys : List Need) → Covers (insert_by need_before x ys) (x ∷ ys)
insert_out x [] = embeds_itself CoversNeed covers_itself (x ∷ [])
insert_out x (y ∷ ys) = by_test (need_before y x) (insert_out x ys)
  where
    by_test : (t : Bool) → Covers (insert_by need_before x ys) (x ∷ ys) → Covers (cond t (y ∷ insert_by need_before x ys) (x ∷ y ∷ ys))
        (x ∷ y ∷ ys)
    by_test false rest = embeds_itself CoversNeed covers_itself (x ∷ y ∷ ys)
    by_test true rest = covers_transitive (y ∷ insert_by need_before x ys) (y ∷ x ∷ ys) (x ∷ y ∷ ys)
        (embeds_front CoversNeed y y (insert_by need_before x ys) (x ∷ ys) (covers_itself y) rest) (embeds_swap CoversNeed covers_itself y x ys)

pub sort_into : (xs : List Need) → Covers xs (sort_by need_before xs)
sort_into [] = embeds_itself CoversNeed covers_itself []
sort_into (x ∷ xs) = covers_transitive (x ∷ xs) (x ∷ sort_by need_before xs) (insert_by need_before x (sort_by need_before xs))
    (embeds_front CoversNeed x x xs (sort_by need_before xs) (covers_itself x) (sort_into xs)) (insert_into x (sort_by need_before xs))

pub sort_out : (xs : List Need) → Covers (sort_by need_before xs) xs
sort_out [] = embeds_itself CoversNeed covers_itself []
sort_out (x ∷ xs) = covers_transitive (insert_by need_before x (sort_by need_before xs)) (x ∷ sort_by need_before xs) (x ∷ xs)
    (insert_out x (sort_by need_before xs)) (embeds_front CoversNeed x x (sort_by need_before xs) xs (covers_itself x) (sort_out xs))

-- least hits

pub count_less : {A : Type 0} (p q : A → Bool) → ((x : A) → p x ≡ true → q x ≡ true) → (xs : List A) → count p xs ≤ count q xs
count_less p q h [] = omega arith
count_less p q h (x ∷ xs) = let r = count_less p q h xs in by_tests (p x) (q x) (h x) r
  where
    by_tests : (s t : Bool) → (s ≡ true → t ≡ true) → {m n : ℕ} → m ≤ n → cond s 1 0 + m ≤ cond t 1 0 + n
    by_tests false false h l = omega arith
    by_tests false true h l = omega arith
    by_tests true true h l = omega arith
    by_tests true false h l = let k = h refl in cc

pub count_fewer : {A : Type 0} (p q : A → Bool) → ((x : A) → p x ≡ true → q x ≡ true) → (xs : List A)
    → Some_of (λ x. (q x ≡ true) × (p x ≡ false)) xs → count p xs < count q xs
count_fewer p q h [] s = absurd s
count_fewer p q h (x ∷ xs) (inl s) = let a = s.0 in let b = s.1 in let r = count_less p q h xs in rw (a, b) (omega (arith, r))
count_fewer p q h (x ∷ xs) (inr s) = let r = count_fewer p q h xs s in by_tests (p x) (q x) (h x) r
  where
    by_tests : (s t : Bool) → (s ≡ true → t ≡ true) → {m n : ℕ} → m < n → cond s 1 0 + m < cond t 1 0 + n
    by_tests false false h l = omega arith
    by_tests false true h l = omega arith
    by_tests true true h l = omega arith
    by_tests true false h l = let k = h refl in cc

pub less_parts : (k h : List ℕ) → is_less k h ≡ true → IsWithin k h × (IsWithin h k → ⊥)
less_parts k h e =
    let b = and_both (is_within k h) (not (is_within h k)) e in (within_is k h b.0, λ w. not_true (is_within h k) b.1 (is_within_of h k w))

pub less_of : (k h : List ℕ) → IsWithin k h → (IsWithin h k → ⊥) → is_less k h ≡ true
less_of k h w n = both_true (is_within k h) (not (is_within h k)) (is_within_of k h w) (rw (not_false (is_within h k) (λ e. n (within_is h k e))) refl)

pub fewer_below : (hits : List (List ℕ)) (h k : List ℕ) → Some_of (λ (v : List ℕ). v ≡ k) hits → is_less k h ≡ true
    → count (λ j. is_less j k) hits < count (λ j. is_less j h) hits
fewer_below hits h k i e =
    let p = less_parts k h e in
    count_fewer (λ j. is_less j k) (λ j. is_less j h)
    (λ j f. let q = less_parts j k f in less_of j h (λ r m. p.0 r (q.0 r m)) (λ w. q.1 (λ r m. w r (p.0 r m)))) hits
    (one_some (λ j. (is_less j h ≡ true) × (is_less j k ≡ false)) hits k i (e, not_false (is_less k k) (λ f. let q = less_parts k k f in q.1 q.0)))

-- each hit contains a least one
pub least_below : (n : ℕ) (hits : List (List ℕ)) (h : List ℕ) → count (λ j. is_less j h) hits ≤ n → Some_of (λ (k : List ℕ). k ≡ h) hits
    → Some_of (λ k. IsWithin k h) (least_hits hits)
least_below zero hits h l i = by_test (list_any (λ other. is_less other h) hits) refl
  where
    by_test : (t : Bool) → list_any (λ other. is_less other h) hits ≡ t → Some_of (λ k. IsWithin k h) (least_hits hits)
    by_test false e = in_filter (λ k. IsWithin k h) (λ hit. not (list_any (λ other. is_less other hit) hits)) hits
        (one_some (λ k. IsWithin k h × (not (list_any (λ other. is_less other k) hits) ≡ true)) hits h i ((λ r m. m), rw e refl))
    by_test true e =
        let k = some_one (λ other. is_less other h ≡ true) hits
        (any_of (λ other. is_less other h ≡ true) (λ other. is_less other h) (λ other f. f) hits e) in
        let f = fewer_below hits h k.0 k.1 k.2 in absurd (omega (arith, f, l))
least_below (suc n) hits h l i = by_test (list_any (λ other. is_less other h) hits) refl (λ k m j. least_below n hits k m j)
  where
    by_test : (t : Bool) → list_any (λ other. is_less other h) hits ≡ t
        → ((k : List ℕ) → count (λ j. is_less j k) hits ≤ n → Some_of (λ (v : List ℕ). v ≡ k) hits
        → Some_of (λ v. IsWithin v k) (least_hits hits))
        → Some_of (λ k. IsWithin k h) (least_hits hits)
    by_test false e again = in_filter (λ k. IsWithin k h) (λ hit. not (list_any (λ other. is_less other hit) hits)) hits
        (one_some (λ k. IsWithin k h × (not (list_any (λ other. is_less other k) hits) ≡ true)) hits h i ((λ r m. m), rw e refl))
    by_test true e again =
        let k = some_one (λ other. is_less other h ≡ true) hits
        (any_of (λ other. is_less other h ≡ true) (λ other. is_less other h) (λ other f. f) hits e) in
        let f = fewer_below hits h k.0 k.1 k.2 in
        let p = less_parts k.0 h k.2 in
        some_weaker (λ v. IsWithin v k.0) (λ v. IsWithin v h) (λ v w r m. p.0 r (w r m)) (least_hits hits) (again k.0 (omega (arith, f, l)) k.1)

pub bare_in : (need : Need) (h : List ℕ) → Some_of (λ (k : List ℕ). k ≡ h) need.hits → Some_of (λ (k : List ℕ). k ≡ less_roles h need.lacks)
    (bare_hits need)
bare_in need h i = go need.hits i
  where
    go : (hits : List (List ℕ)) → Some_of (λ (k : List ℕ). k ≡ h) hits → Some_of (λ (k : List ℕ). k ≡ less_roles h need.lacks)
        (map (λ hit. less_roles hit need.lacks) hits)
    go [] i = i
    go (k ∷ hits) (inl e) = inl (ap (λ (v : List ℕ). less_roles v need.lacks) e)
    go (k ∷ hits) (inr i) = inr (go hits i)

pub in_bare : (need : Need) (b : List ℕ) → Some_of (λ (k : List ℕ). k ≡ b) (bare_hits need)
    → Some_of (λ (k : List ℕ). less_roles k need.lacks ≡ b) need.hits
in_bare need b i = go need.hits i
  where
    go : (hits : List (List ℕ)) → Some_of (λ (k : List ℕ). k ≡ b) (map (λ hit. less_roles hit need.lacks) hits)
        → Some_of (λ (k : List ℕ). less_roles k need.lacks ≡ b) hits
    go [] i = i
    go (k ∷ hits) (inl e) = inl e
    go (k ∷ hits) (inr i) = inr (go hits i)

-- what is in the sorted least hits is a bare hit that no other is less than
pub normal_hit : (need : Need) (h : List ℕ) → Some_of (λ (k : List ℕ). k ≡ h) (normal_need need).hits
    → Some_of (λ (k : List ℕ). k ≡ h) (bare_hits need) × (list_any (λ other. is_less other h) (bare_hits need) ≡ false)
normal_hit need h i =
    let r = some_one (λ k. (k ≡ h) × (not (list_any (λ other. is_less other k) (bare_hits need)) ≡ true)) (bare_hits need)
    (filter_in (λ (k : List ℕ). k ≡ h) (λ hit. not (list_any (λ other. is_less other hit) (bare_hits need))) (bare_hits need)
    (sort_in set_before set_order (λ (k : List ℕ). k ≡ h) (least_hits (bare_hits need)) i)) in (
      one_some (λ (k : List ℕ). k ≡ h) (bare_hits need) r.0 r.1 r.2.0,
      not_false (list_any (λ other. is_less other h) (bare_hits need)) (λ e.
          not_true (list_any (λ other. is_less other r.0) (bare_hits need)) r.2.1
          (subst (λ v. list_any (λ other. is_less other v) (bare_hits need) ≡ true) (sym r.2.0) e)),
    )

pub need_normal : (need : Need) → CoversNeed need (normal_need need)
need_normal need = record {
  hits = each_by (λ hit. Some_of (λ other. IsWithin (less_roles other need.lacks) hit) (normal_need need).hits) need.hits (λ h i.
      let bare = less_roles h need.lacks in
      in_sort set_before set_order (λ other. IsWithin (less_roles other need.lacks) h) (least_hits (bare_hits need))
      (some_weaker (λ k. IsWithin k bare) (λ other. IsWithin (less_roles other need.lacks) h)
      (λ k w r m. less_in h need.lacks r (w r (less_in k need.lacks r m))) (least_hits (bare_hits need))
      (least_below (count (λ j. is_less j bare) (bare_hits need)) (bare_hits need) bare (omega arith) (bare_in need h i))));
  lacks = λ r m. m;
}

pub normal_covers : (need : Need) → CoversNeed (normal_need need) need
normal_covers need = record {
  hits = each_by (λ hit. Some_of (λ other. IsWithin (less_roles other need.lacks) hit) need.hits) (normal_need need).hits (λ h i.
      some_weaker (λ (k : List ℕ). less_roles k need.lacks ≡ h) (λ other. IsWithin (less_roles other need.lacks) h)
      (λ k e r m. subst (λ v. IsIn v r) e m) need.hits
      (in_bare need h (normal_hit need h i).0));
  lacks = λ r m. m;
}

pub map_into : (needs : List Need) → Covers needs (map normal_need needs)
map_into [] = embeds_itself CoversNeed covers_itself []
map_into (x ∷ xs) = embeds_front CoversNeed x (normal_need x) xs (map normal_need xs) (need_normal x) (map_into xs)

pub map_out : (needs : List Need) → Covers (map normal_need needs) needs
map_out [] = embeds_itself CoversNeed covers_itself []
map_out (x ∷ xs) = embeds_front CoversNeed (normal_need x) x (map normal_need xs) xs (normal_covers x) (map_out xs)

pub normal_both : (needs form : List Need) → normal_form needs ≡ Some form → Covers needs form × Covers form needs
normal_both needs form e =
    let s = (some_cond (is_impossible needs) (sort_by need_before (map normal_need needs)) form e).1 in (
      subst (λ f. Covers needs f) s (covers_transitive needs (map normal_need needs) (sort_by need_before (map normal_need needs)) (map_into needs)
          (sort_into (map normal_need needs))),
      subst (λ f. Covers f needs) s (covers_transitive (sort_by need_before (map normal_need needs)) (map normal_need needs) needs
          (sort_out (map normal_need needs)) (map_out needs)),
    )

-- impossible

pub bare_filled : (need : Need) → Each (λ hit. (role : ℕ) × IsIn hit role × IsOut need.lacks role) need.hits
    → list_any is_empty (bare_hits need) ≡ false
bare_filled need h = go need.hits h
  where
    filled : (xs : List ℕ) (q : ℕ) → IsIn xs q → is_empty xs ≡ false
    filled [] q k = cc
    filled (x ∷ xs) q k = refl

    go : (hits : List (List ℕ)) → Each (λ hit. (role : ℕ) × IsIn hit role × IsOut need.lacks role) hits
        → list_any is_empty (map (λ hit. less_roles hit need.lacks) hits) ≡ false
    go [] h = refl
    go (hit ∷ hits) h = rw (filled (less_roles hit need.lacks) h.0.0 (in_less hit need.lacks h.0.0 h.0.1 h.0.2)) (go hits h.1)

pub possible_not : (needs : List Need) → IsPossible needs → is_impossible needs ≡ false
possible_not [] h = refl
possible_not (need ∷ needs) h = rw (bare_filled need h.0) (possible_not needs h.1)

pub not_possible : (needs : List Need) → is_impossible needs ≡ false → IsPossible needs
not_possible [] e = tt
not_possible (need ∷ needs) e =
    let b = or_none (list_any is_empty (bare_hits need)) (is_impossible needs) e in (go need.hits b.0, not_possible needs b.1)
  where
    first : (xs : List ℕ) → is_empty xs ≡ false → (q : ℕ) × IsIn xs q
    first [] e = cc
    first (x ∷ xs) e = (x, rw (eq-eqb x x refl) refl)

    go : (hits : List (List ℕ)) → list_any is_empty (map (λ hit. less_roles hit need.lacks) hits) ≡ false
        → Each (λ hit. (role : ℕ) × IsIn hit role × IsOut need.lacks role) hits
    go [] e = tt
    go (hit ∷ hits) e =
        let b = or_none (is_empty (less_roles hit need.lacks)) (list_any is_empty (map (λ hit. less_roles hit need.lacks) hits)) e in
        let q = first (less_roles hit need.lacks) b.0 in
        ((q.0, less_in hit need.lacks q.0 q.1, less_out hit need.lacks q.0 q.1), go hits b.1)

pub none_impossible : (needs : List Need) → (normal_form needs ≡ None) ↔ ¬ IsPossible needs
none_impossible needs = (
  λ e p. let f = possible_not needs p in by_none (is_impossible needs) (sort_by need_before (map normal_need needs)) e f,
  λ n. by_test (is_impossible needs) refl n,
)
  where
    by_none : {A : Type 0} (t : Bool) (x : A) → cond t None (Some x) ≡ None → t ≡ false → ⊥
    by_none true x e f = cc
    by_none false x e f = cc

    by_test : (t : Bool) → is_impossible needs ≡ t → ¬ IsPossible needs → normal_form needs ≡ None
    by_test true e n = rw e refl
    by_test false e n = absurd (n (not_possible needs e))

-- the form is normal

pub normal_is_normal : (need : Need) → AreSets need → IsPossibleNeed need → IsNormalNeed (normal_need need)
normal_is_normal need sets possible = record {
  lacks = sets.lacks;
  filled = each_by (λ hit. (role : ℕ) × IsIn hit role) (normal_need need).hits (λ h i.
      let k = some_one (λ (k : List ℕ). less_roles k need.lacks ≡ h) need.hits (in_bare need h (normal_hit need h i).0) in
      let free = each_some (λ hit. (role : ℕ) × IsIn hit role × IsOut need.lacks role) need.hits k.0 possible k.1 in
      (free.0, subst (λ v. IsIn v free.0) k.2 (in_less k.0 need.lacks free.0 free.1 free.2)));
  rising = each_by Rises (normal_need need).hits (λ h i. rising h (normal_hit need h i).0);
  bare = each_by (λ hit. AreApart need.lacks hit) (normal_need need).hits (λ h i r lacked held.
      let k = some_one (λ (k : List ℕ). less_roles k need.lacks ≡ h) need.hits (in_bare need h (normal_hit need h i).0) in
      let out = less_out k.0 need.lacks r (subst (λ v. IsIn v r) (sym k.2) held) in cc);
  least = each_by (λ hit. Each (λ other. IsWithin other hit → other ≡ hit) (normal_need need).hits) (normal_need need).hits (λ h i.
      each_by (λ other. IsWithin other h → other ≡ h) (normal_need need).hits (λ k j w.
      let a = normal_hit need h i in let b = normal_hit need k j in
      same_roles k h (rising k b.0) (rising h a.0) w (back h k a.1 b.0 w)));
  sorted = sort_rises set_before set_order (least_hits (bare_hits need));
}
  where
    rising : (h : List ℕ) → Some_of (λ (k : List ℕ). k ≡ h) (bare_hits need) → Rises h
    rising h i =
        let k = some_one (λ (k : List ℕ). less_roles k need.lacks ≡ h) need.hits (in_bare need h i) in
        subst Rises k.2 (rises-filter (λ x. not (has_role need.lacks x)) k.0 (each_some Rises need.hits k.0 sets.hits k.1))

    back : (h k : List ℕ) → list_any (λ other. is_less other h) (bare_hits need) ≡ false → Some_of (λ (v : List ℕ). v ≡ k) (bare_hits need)
        → IsWithin k h → IsWithin h k
    back h k none i w = by_test (is_within h k) refl
      where
        by_test : (t : Bool) → is_within h k ≡ t → IsWithin h k
        by_test true e = within_is h k e
        by_test false e =
            let less : is_less k h ≡ true = less_of k h w (λ v. let yes' = is_within_of h k v in cc) in
            let any' : list_any (λ other. is_less other h) (bare_hits need) ≡ true =
            of_any (λ other. is_less other h ≡ true) (λ other. is_less other h) (λ other f. f) (bare_hits need)
            (one_some (λ other. is_less other h ≡ true) (bare_hits need) k i less) in cc

pub normal_forms : (needs : List Need) → Each AreSets needs → IsPossible needs → Each IsNormalNeed (map normal_need needs)
normal_forms [] h p = tt
normal_forms (x ∷ xs) h p = (normal_is_normal x h.0 p.0, normal_forms xs h.1 p.1)

pub form_is_normal : (needs form : List Need) → Each AreSets needs → normal_form needs ≡ Some form → IsNormal form
form_is_normal needs form sets e =
    let s = some_cond (is_impossible needs) (sort_by need_before (map normal_need needs)) form e in
    subst IsNormal s.1 (record {
      each = sort_by_in need_before IsNormalNeed (map normal_need needs) (normal_forms needs sets (not_possible needs s.0));
      sorted = sort_sorted need_before need_order (map normal_need needs);
    })

-- the normal form is covered by one of the list exactly where the needs are
pub covered_alike : (list : List (List Need)) (needs form : List Need) → normal_form needs ≡ Some form → IsCovered list needs ↔ IsCovered list form
covered_alike list needs form e = let b = normal_both needs form e in (
  λ h. some_weaker (λ one. Covers one needs) (λ one. Covers one form) (λ one c. covers_transitive one needs form c b.0) list h,
  λ h. some_weaker (λ one. Covers one form) (λ one. Covers one needs) (λ one c. covers_transitive one form needs c b.1) list h,
)

-- who meets the form meets the needs, by the places to which they went
pub placed_met : (users : List (List ℕ)) (needs form : List Need) (places : List ℕ) → ArePlaces (λ need one. normal_need need ≡ one) needs form places
    → (met : Meets users form) → MeetsBy users needs (λ i. met.to (get_or places i 0))
placed_met users needs form places p met = (
  record {
    to = λ i. met.to (get_or places i 0);
    apart = λ i j l m e. p.apart i j (within i l) (within j m) (met.apart (get_or places i 0) (get_or places j 0) (below i l) (below j m) e);
    each = λ i need at.
        let one = p.each i need at in
        let user = met.each (get_or places i 0) one.0 one.1 in
        (user.0, user.1, covered_met need one.0 user.0 (subst (CoversNeed need) one.2 (need_normal need)) user.2);
  },
  λ i. refl,
)
  where
    within : (i : ℕ) → i < length needs → i < length places
    within i l = subst (λ n. i < n) (sym p.long) l

    below : (i : ℕ) → i < length needs → get_or places i 0 < length form
    below i l = let need = get_there needs i l in let one = p.each i need.0 need.1 in get_below form (get_or places i 0) one.0 one.1
