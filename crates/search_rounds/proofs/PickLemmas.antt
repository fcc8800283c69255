-- The candidates of an act on one target, by administrator.
use Rattle.std.proofs.Common.{ℕ, ◌≡◌, ◌<◌, ◌≤◌, ◌+◌, ◌-◌, ◌∙◌, ◌||◌, Bool, true, false, not, cond, eqb, List, [], ◌∷◌, ◌++◌, length, map}
use Rattle.std.proofs.Common.{zero, suc, Some, refl, ap, sym, subst, arith, inl, inr, append_assoc, append-nil}
use Rattle.std.specs.Prelude.{◌⊎◌, ◌==◌, ◌↔◌, IsTrue, None, Option, filter, option_map, slice_get, slice_set}
use Rattle.std.specs.List.{list_any}
use Rattle.std.proofs.lemmas.Bool.{eqb-true, eq-eqb, ne_eqb}
use Rattle.std.proofs.lemmas.Bool.Decides.{nat_tests}
use Rattle.list_words.specs.Lists.{Each, Some_of}
use Rattle.list_words.proofs.CountLemmas.{count}
use Rattle.list_words.proofs.EachLemmas.{each_append, each_at, each_by, one_some, some_one, some_weaker}
use Rattle.list_words.proofs.GetLemmas.{get_below, get_last, get_set, get_set_other, get_map, get_set_same, length_set, same_some, some_cond}
use Rattle.list_words.proofs.OrderLemmas.{rising_same, total_strict}
use Rattle.list_words.proofs.TestLemmas.{not_false, not_true, or_none}
use Rattle.role_order.specs.Graph.{Graph}
use Rattle.role_order.specs.Orders.{set_before}
use Rattle.role_order.specs.Reach.{count_up}
use Rattle.role_order.specs.Roles.{IsWithin, less_roles}
use Rattle.role_order.proofs.OrderLemmas.{set_order}
use Rattle.arbac_laws.specs.Needs.{Covers, IsCovered, Need}
use Rattle.arbac_laws.specs.Orders.{need_before}
use Rattle.arbac_laws.specs.NormalForms.{IsNormalNeed, bare_hits, is_impossible, is_less, least_hits, normal_form, normal_need, sort_by, sort_once}
use Rattle.arbac_laws.specs.Obligations.{Obligation, flat, picks}
use Rattle.arbac_laws.specs.PreImages.{IsPick, Pick, add_hit, change_at, is_empty, with_admin, itself, other, fresh}
use Rattle.arbac_laws.specs.Recorded.{Entry, Origin, of_parent}
use Rattle.arbac_laws.proofs.CoverLemmas.{covers_transitive}
use Rattle.arbac_laws.proofs.FixedLemmas.{bare_already, need_fixed, normal_possible}
use Rattle.arbac_laws.proofs.NormalLemmas.{bare_filled, least_below, less_of, less_parts, need_normal, normal_both, normal_covers}
use Rattle.arbac_laws.proofs.SameLemmas.{any_of, of_any}
use Rattle.arbac_laws.proofs.SortLemmas.{filter_in, in_filter, in_sort, sort_in, sort_rises}
use Rattle.req_core.specs.Forms.{user_form}
use Rattle.shared_reqs.specs.Shared.{AreOwnMarks, IsOwnMark, MarkedNeed, needs_marked}
use Rattle.search_laws.specs.Beats.{Beats}
use Rattle.search_laws.specs.Candidates.{as_candidate}
use Rattle.search_laws.specs.Pruning.{HasHitWithin, IsFree}
use Rattle.search_laws.proofs.AdminLemmas.{free_covers_others, not_covering_free}
use Rattle.search_laws.proofs.CandidateLemmas.{each_candidate, each_flat}
use Rattle.search_laws.proofs.MarkLemmas.{hit_covered}
use Rattle.search_laws.proofs.MonotonyLemmas.{covering_form}
use Rattle.search_rounds.specs.Keeping.{Gathered, Gathers, Keeps}
use Rattle.search_rounds.specs.Making.{by_pick, by_picks}
use Rattle.search_rounds.specs.Picks.{IsFirstFree, IsFreePlace, by_other, only_if}
use Rattle.search_rounds.proofs.KeepingLemmas.{gathers_more, gathers_none, get_right, get_side, keeps_all}

-- one hit more

-- what is in the sorted least hits is a hit than which no other is less
pub least_in : (hits : List (List ℕ)) (x : List ℕ) → Some_of (λ (k : List ℕ). k ≡ x) (sort_once set_before (least_hits hits))
    → Some_of (λ (k : List ℕ). k ≡ x) hits × (list_any (λ other. is_less other x) hits ≡ false)
least_in hits x i =
    let r = some_one (λ k. (k ≡ x) × (not (list_any (λ other. is_less other k) hits) ≡ true)) hits
    (filter_in (λ (k : List ℕ). k ≡ x) (λ hit. not (list_any (λ other. is_less other hit) hits)) hits
    (sort_in set_before set_order (λ (k : List ℕ). k ≡ x) (least_hits hits) i)) in (
      one_some (λ (k : List ℕ). k ≡ x) hits r.0 r.1 r.2.0,
      not_false (list_any (λ other. is_less other x) hits) (λ e.
          not_true (list_any (λ other. is_less other r.0) hits) r.2.1
          (subst (λ v. list_any (λ other. is_less other v) hits ≡ true) (sym r.2.0) e)),
    )

-- and such a hit is in them
pub in_least : (hits : List (List ℕ)) (x : List ℕ) → Some_of (λ (k : List ℕ). k ≡ x) hits → list_any (λ other. is_less other x) hits ≡ false
    → Some_of (λ (k : List ℕ). k ≡ x) (sort_once set_before (least_hits hits))
in_least hits x i e =
    in_sort set_before set_order (λ (k : List ℕ). k ≡ x) (least_hits hits)
    (in_filter (λ (k : List ℕ). k ≡ x) (λ hit. not (list_any (λ other. is_less other hit) hits)) hits
    (one_some (λ k. (k ≡ x) × (not (list_any (λ other. is_less other k) hits) ≡ true)) hits x i (refl, rw e refl)))

-- where a hit of all is less than one, so is one of the least
pub least_less : (hits : List (List ℕ)) (x : List ℕ) → list_any (λ other. is_less other x) hits ≡ true
    → list_any (λ other. is_less other x) (sort_once set_before (least_hits hits)) ≡ true
least_less hits x e =
    let k = some_one (λ other. is_less other x ≡ true) hits
    (any_of (λ other. is_less other x ≡ true) (λ other. is_less other x) (λ other f. f) hits e) in
    let p = less_parts k.0 x k.2 in
    of_any (λ other. is_less other x ≡ true) (λ other. is_less other x) (λ other f. f) (sort_once set_before (least_hits hits))
    (in_sort set_before set_order (λ other. is_less other x ≡ true) (least_hits hits)
    (some_weaker (λ v. IsWithin v k.0) (λ v. is_less v x ≡ true)
    (λ v w. less_of v x (λ role held. p.0 role (w role held)) (λ back. p.1 (λ role held. w role (back role held)))) (least_hits hits)
    (least_below (count (λ j. is_less j k.0) hits) hits k.0 (omega arith) k.1)))

-- where some hit of the least is less than one, so is one of all
pub less_least : (hits : List (List ℕ)) (x : List ℕ) → list_any (λ other. is_less other x) (sort_once set_before (least_hits hits)) ≡ true
    → list_any (λ other. is_less other x) hits ≡ true
less_least hits x e =
    let k = some_one (λ other. is_less other x ≡ true) (sort_once set_before (least_hits hits))
    (any_of (λ other. is_less other x ≡ true) (λ other. is_less other x) (λ other f. f) (sort_once set_before (least_hits hits)) e) in
    of_any (λ other. is_less other x ≡ true) (λ other. is_less other x) (λ other f. f) hits
    (one_some (λ other. is_less other x ≡ true) hits k.0 (least_in hits k.0 k.1).0 k.2)

-- the least hits of a hit and others are those of the hit and the least of the others
pub least_more : (h : List ℕ) (hits : List (List ℕ)) → sort_once set_before (least_hits (h ∷ hits))
    ≡ sort_once set_before (least_hits (h ∷ sort_once set_before (least_hits hits)))
least_more h hits =
    rising_same set_before (total_strict set_before set_order) (sort_once set_before (least_hits (h ∷ hits)))
    (sort_once set_before (least_hits (h ∷ least)))
    (sort_rises set_before set_order (least_hits (h ∷ hits))) (sort_rises set_before set_order (least_hits (h ∷ least)))
    (each_by (λ x. Some_of (λ (k : List ℕ). k ≡ x) (sort_once set_before (least_hits (h ∷ least)))) (sort_once set_before (least_hits (h ∷ hits))) out)
    (each_by (λ x. Some_of (λ (k : List ℕ). k ≡ x) (sort_once set_before (least_hits (h ∷ hits)))) (sort_once set_before (least_hits (h ∷ least))) back)
  where
    least : List (List ℕ)
    least = sort_once set_before (least_hits hits)

    out : (x : List ℕ) → Some_of (λ (k : List ℕ). k ≡ x) (sort_once set_before (least_hits (h ∷ hits)))
        → Some_of (λ (k : List ℕ). k ≡ x) (sort_once set_before (least_hits (h ∷ least)))
    out x i =
        let r = least_in (h ∷ hits) x i in
        let none = or_none (is_less h x) (list_any (λ other. is_less other x) hits) r.1 in
        let free : list_any (λ other. is_less other x) least ≡ false = not_false (list_any (λ other. is_less other x) least) (λ e.
        let some = less_least hits x e in let n = none.1 in cc) in
        let first = none.0 in
        in_least (h ∷ least) x (by_side r.0 none.1) (rw (first, free) refl)
      where
        by_side : Some_of (λ (k : List ℕ). k ≡ x) (h ∷ hits) → list_any (λ other. is_less other x) hits ≡ false
            → Some_of (λ (k : List ℕ). k ≡ x) (h ∷ least)
        by_side (inl e) n = inl e
        by_side (inr i) n = inr (in_least hits x i n)

    back : (x : List ℕ) → Some_of (λ (k : List ℕ). k ≡ x) (sort_once set_before (least_hits (h ∷ least)))
        → Some_of (λ (k : List ℕ). k ≡ x) (sort_once set_before (least_hits (h ∷ hits)))
    back x i =
        let r = least_in (h ∷ least) x i in
        let none = or_none (is_less h x) (list_any (λ other. is_less other x) least) r.1 in
        let free : list_any (λ other. is_less other x) hits ≡ false = not_false (list_any (λ other. is_less other x) hits) (λ e.
        let some = least_less hits x e in let n = none.1 in cc) in
        let first = none.0 in
        in_least (h ∷ hits) x (by_side r.0) (rw (first, free) refl)
      where
        by_side : Some_of (λ (k : List ℕ). k ≡ x) (h ∷ least) → Some_of (λ (k : List ℕ). k ≡ x) (h ∷ hits)
        by_side (inl e) = inl e
        by_side (inr i) = inr (least_in hits x i).0

-- a user in normal form is its own form
pub normal_user_form : (need : Need) → IsNormalNeed need → user_form need ≡ Some need
normal_user_form need n = rw (bare_filled need (normal_possible need n)) (ap Some (need_fixed need n))

-- with one hit more a user has the form that its form has with it
pub form_add_hit : (raw before : Need) (hit : List ℕ) → user_form raw ≡ Some before → IsNormalNeed before
    → user_form (add_hit hit raw) ≡ user_form (add_hit hit before)
form_add_hit raw before hit e n = subst (λ (v : Need). user_form (add_hit hit raw) ≡ user_form (add_hit hit v)) both.1 same
  where
    both : (list_any is_empty (bare_hits raw) ≡ false) × (normal_need raw ≡ before)
    both = some_cond (list_any is_empty (bare_hits raw)) (normal_need raw) before e

    normal : IsNormalNeed (normal_need raw)
    normal = subst IsNormalNeed (sym both.1) n

    bare : bare_hits (normal_need raw) ≡ sort_once set_before (least_hits (bare_hits raw))
    bare = bare_already (normal_need raw) normal

    filled : list_any is_empty (sort_once set_before (least_hits (bare_hits raw))) ≡ false
    filled = subst (λ (v : List (List ℕ)). list_any is_empty v ≡ false) bare (bare_filled (normal_need raw) (normal_possible (normal_need raw) normal))

    same : user_form (add_hit hit raw) ≡ user_form (add_hit hit (normal_need raw))
    same = first ∙ ap (λ (v : List (List ℕ)). cond (is_empty (less_roles hit raw.lacks) || list_any is_empty v) None
        (Some (let need : Need = record { hits = sort_once set_before (least_hits (less_roles hit raw.lacks ∷ v)); lacks = raw.lacks } in need))) (sym bare)
      where
        first : user_form (add_hit hit raw)
            ≡ cond (is_empty (less_roles hit raw.lacks) || list_any is_empty (sort_once set_before (least_hits (bare_hits raw)))) None
            (Some (let need : Need = record {
              hits = sort_once set_before (least_hits (less_roles hit raw.lacks ∷ sort_once set_before (least_hits (bare_hits raw))));
              lacks = raw.lacks;
            } in need))
        first = let full = both.0 in
            rw (full, filled) (ap (λ (h : List (List ℕ)). cond (is_empty (less_roles hit raw.lacks) || false) None
            (Some (let need : Need = record { hits = h; lacks = raw.lacks } in need))) (least_more (less_roles hit raw.lacks) (bare_hits raw)))

-- users one by one

-- user by user, the second list has the forms of the first
abbrev pub AreForms : List Need → List Need → Type 0
AreForms [] [] = Unit {0}
AreForms [] (y ∷ ys) = ⊥
AreForms (x ∷ xs) [] = ⊥
AreForms (x ∷ xs) (y ∷ ys) = (user_form x ≡ Some y) × AreForms xs ys

-- then none is impossible, and they are the normal needs
pub forms_parts : (xs ys : List Need) → AreForms xs ys → (is_impossible xs ≡ false) × (map normal_need xs ≡ ys)
forms_parts [] [] h = (refl, refl)
forms_parts [] (y ∷ ys) h = absurd h
forms_parts (x ∷ xs) [] h = absurd h
forms_parts (x ∷ xs) (y ∷ ys) h =
    let both = some_cond (list_any is_empty (bare_hits x)) (normal_need x) y h.0 in
    let rest = forms_parts xs ys h.1 in
    let here = both.0 in let there = rest.0 in
    (rw (here, there) refl, ap (λ v. v ∷ map normal_need xs) both.1 ∙ ap (λ t. y ∷ t) rest.1)

-- sorted, they are the normal form
pub forms_some : (xs ys : List Need) → AreForms xs ys → normal_form xs ≡ Some (sort_by need_before ys)
forms_some xs ys h =
    let parts = forms_parts xs ys h in let possible = parts.0 in rw possible (ap (λ v. Some (sort_by need_before v)) parts.1)

-- with one user who has none, there is no normal form
pub forms_none : (xs : List Need) (k : ℕ) (x : Need) → slice_get xs k ≡ Some x → user_form x ≡ None → normal_form xs ≡ None
forms_none xs k x at e = rw (impossible xs k at) refl
  where
    bad : (t : Bool) (need : Need) → cond t None (Some need) ≡ None → t ≡ true
    bad true need e = refl
    bad false need e = cc

    or_true : (t : Bool) → (t || true) ≡ true
    or_true true = refl
    or_true false = refl

    impossible : (xs : List Need) (k : ℕ) → slice_get xs k ≡ Some x → is_impossible xs ≡ true
    impossible [] k at = cc
    impossible (y ∷ ys) zero at =
        let same : y ≡ x = cc in
        rw (subst (λ (v : Need). list_any is_empty (bare_hits v) ≡ true) (sym same) (bad (list_any is_empty (bare_hits x)) (normal_need x) e)) refl
    impossible (y ∷ ys) (suc k) at = rw (impossible ys k at) (or_true (list_any is_empty (bare_hits y)))

-- users in normal form are their own forms
pub forms_itself : (xs : List Need) → Each IsNormalNeed xs → AreForms xs xs
forms_itself [] h = tt
forms_itself (x ∷ xs) h = (normal_user_form x h.0, forms_itself xs h.1)

-- one user exchanged in both
pub forms_set : (xs ys : List Need) (k : ℕ) (x y : Need) → AreForms xs ys → user_form x ≡ Some y → AreForms (slice_set xs k x) (slice_set ys k y)
forms_set [] [] k x y h e = tt
forms_set [] (w ∷ ys) k x y h e = absurd h
forms_set (v ∷ xs) [] k x y h e = absurd h
forms_set (v ∷ xs) (w ∷ ys) zero x y h e = (e, h.1)
forms_set (v ∷ xs) (w ∷ ys) (suc k) x y h e = (h.0, forms_set xs ys k x y h.1 e)

-- one user more at the end of both
pub forms_more : (xs ys : List Need) (x y : Need) → AreForms xs ys → user_form x ≡ Some y → AreForms (xs ++ x ∷ []) (ys ++ y ∷ [])
forms_more [] [] x y h e = (e, tt)
forms_more [] (w ∷ ys) x y h e = absurd h
forms_more (v ∷ xs) [] x y h e = absurd h
forms_more (v ∷ xs) (w ∷ ys) x y h e = (h.0, forms_more xs ys x y h.1 e)

-- the pre-image, by administrator

-- the user at the place changed
pub change_there : (xs : List Need) (k : ℕ) (x : Need) (change : Need → Need) → slice_get xs k ≡ Some x → change_at k change xs ≡ slice_set xs k (change x)
change_there [] k x change at = refl
change_there (y ∷ ys) zero x change at = let same : y ≡ x = cc in ap (λ v. change v ∷ ys) same
change_there (y ∷ ys) (suc k) x change at = ap (λ t. y ∷ t) (change_there ys k x change at)

-- an exchanged user changed
pub change_set : (xs : List Need) (k : ℕ) (x : Need) (change : Need → Need) → change_at k change (slice_set xs k x) ≡ slice_set xs k (change x)
change_set [] k x change = refl
change_set (y ∷ ys) zero x change = refl
change_set (y ∷ ys) (suc k) x change = ap (λ t. y ∷ t) (change_set ys k x change)

-- where the target is its own administrator
pub made_itself : (needs : List Need) (target : ℕ) (hit : List ℕ) (before raw : Need) → Each IsNormalNeed needs → IsNormalNeed before
    → target < length needs → user_form raw ≡ Some before → (one : Option Need) → one ≡ user_form (add_hit hit before)
    → option_map (λ both. sort_by need_before (slice_set needs target both)) one ≡ normal_form (with_admin itself target hit (slice_set needs target raw))
made_itself needs target hit before raw normal n l e one made = by_one one (made ∙ sym (form_add_hit raw before hit e n))
  where
    by_one : (one : Option Need) → one ≡ user_form (add_hit hit raw)
        → option_map (λ both. sort_by need_before (slice_set needs target both)) one ≡ normal_form (change_at target (add_hit hit) (slice_set needs target raw))
    by_one None f = rw (change_set needs target raw (add_hit hit))
        (sym (forms_none (slice_set needs target (add_hit hit raw)) target (add_hit hit raw) (get_set_same needs target (add_hit hit raw) l) (sym f)))
    by_one (Some both) f = rw (change_set needs target raw (add_hit hit))
        (sym (forms_some (slice_set needs target (add_hit hit raw)) (slice_set needs target both)
        (forms_set needs needs target (add_hit hit raw) both (forms_itself needs normal) (sym f))))

-- where it is the user at another place
pub made_other : (needs : List Need) (target place : ℕ) (hit : List ℕ) (before raw user : Need) → Each IsNormalNeed needs
    → ¬ (place ≡ target) → slice_get needs place ≡ Some user → user_form raw ≡ Some before → (one : Option Need) → one ≡ user_form (add_hit hit user)
    → option_map (λ admin. sort_by need_before (slice_set (slice_set needs target before) place admin)) one
    ≡ normal_form (with_admin (other place) target hit (slice_set needs target raw))
made_other needs target place hit before raw user normal apart at e one made = by_one one made
  where
    there : slice_get (slice_set needs target raw) place ≡ Some user
    there = get_set_other needs target place raw (λ same. apart (sym same)) ∙ at

    by_one : (one : Option Need) → one ≡ user_form (add_hit hit user)
        → option_map (λ admin. sort_by need_before (slice_set (slice_set needs target before) place admin)) one
        ≡ normal_form (change_at place (add_hit hit) (slice_set needs target raw))
    by_one None f = rw (change_there (slice_set needs target raw) place user (add_hit hit) there)
        (sym (forms_none (slice_set (slice_set needs target raw) place (add_hit hit user)) place (add_hit hit user)
        (get_set (slice_set needs target raw) place user (add_hit hit user) there) (sym f)))
    by_one (Some admin) f = rw (change_there (slice_set needs target raw) place user (add_hit hit) there)
        (sym (forms_some (slice_set (slice_set needs target raw) place (add_hit hit user)) (slice_set (slice_set needs target before) place admin)
        (forms_set (slice_set needs target raw) (slice_set needs target before) place (add_hit hit user) admin
        (forms_set needs needs target raw before (forms_itself needs normal) e) (sym f))))

-- where it is a new user
pub made_fresh : (needs : List Need) (target : ℕ) (hit : List ℕ) (before raw : Need) → Each IsNormalNeed needs → user_form raw ≡ Some before
    → (one : Option Need) → one ≡ user_form (record { hits = hit ∷ []; lacks = [] })
    → option_map (λ admin. sort_by need_before (slice_set needs target before ++ admin ∷ [])) one
    ≡ normal_form (with_admin fresh target hit (slice_set needs target raw))
made_fresh needs target hit before raw normal e one made = by_one one made
  where
    by_one : (one : Option Need) → one ≡ user_form (record { hits = hit ∷ []; lacks = [] })
        → option_map (λ admin. sort_by need_before (slice_set needs target before ++ admin ∷ [])) one
        ≡ normal_form (slice_set needs target raw ++ record { hits = hit ∷ []; lacks = [] } ∷ [])
    by_one None f = sym (forms_none (slice_set needs target raw ++ record { hits = hit ∷ []; lacks = [] } ∷ []) (length (slice_set needs target raw))
        (record { hits = hit ∷ []; lacks = [] }) (get_last (slice_set needs target raw) (record { hits = hit ∷ []; lacks = [] })) (sym f))
    by_one (Some admin) f = sym (forms_some (slice_set needs target raw ++ record { hits = hit ∷ []; lacks = [] } ∷ [])
        (slice_set needs target before ++ admin ∷ [])
        (forms_more (slice_set needs target raw) (slice_set needs target before) (record { hits = hit ∷ []; lacks = [] }) admin
        (forms_set needs needs target raw before (forms_itself needs normal) e) (sym f)))

-- all administrators

-- one of them, and then those behind it
pub others_next : (f : ℕ → List Entry) (a b new : Gathered) (count place : ℕ) → place < count → Gathers a b (f place)
    → Gathers b new (flat f (count_up (place + 1) (count - (place + 1)))) → Gathers a new (flat f (count_up place (count - place)))
others_next f a b new count place l g h =
    let left : suc (count - (place + 1)) ≡ count - place = omega (arith, l) in
    subst (λ n. Gathers a new (flat f (count_up place n))) left
    (gathers_more a b new (f place) (flat f (count_up (place + 1) (count - (place + 1)))) g h)

-- behind the last of them
pub others_last : (f : ℕ → List Entry) (a : Gathered) (count place : ℕ) → count ≤ place → Gathers a a (flat f (count_up place (count - place)))
others_last f a count place l =
    let left : 0 ≡ count - place = omega (arith, l) in subst (λ n. Gathers a a (flat f (count_up place n))) left (gathers_none a)

-- the candidates of the others and of someone new
pub others_are : (f : Pick → List Entry) (target : ℕ) (xs : List ℕ)
    → flat (λ place. only_if (not (place == target)) (f (other place))) xs ++ f fresh
    ≡ flat f (map other (filter (λ place. not (place == target)) xs) ++ fresh ∷ [])
others_are f target [] = sym (append-nil (f fresh))
others_are f target (x ∷ xs) = by_test (not (x == target)) (others_are f target xs)
  where
    by_test : (t : Bool) → flat (λ place. only_if (not (place == target)) (f (other place))) xs ++ f fresh
        ≡ flat f (map other (filter (λ place. not (place == target)) xs) ++ fresh ∷ [])
        → (only_if t (f (other x)) ++ flat (λ place. only_if (not (place == target)) (f (other place))) xs) ++ f fresh
        ≡ flat f (map other (cond t (x ∷ filter (λ place. not (place == target)) xs) (filter (λ place. not (place == target)) xs)) ++ fresh ∷ [])
    by_test false rest = rest
    by_test true rest =
        append_assoc (f (other x)) (flat (λ place. only_if (not (place == target)) (f (other place))) xs) (f fresh)
        ∙ ap (λ t. f (other x) ++ t) rest

-- the target, the others and someone new are all administrators
pub all_gathered : (f : Pick → List Entry) (target count : ℕ) (a b c new : Gathered) → Gathers a b (f itself)
    → Gathers b c (flat (λ place. only_if (not (place == target)) (f (other place))) (count_up 0 count)) → Gathers c new (f fresh)
    → Gathers a new (flat f (picks target count))
all_gathered f target count a b c new g h k =
    subst (λ list. Gathers a new (f itself ++ list)) (others_are f target (count_up 0 count))
    (gathers_more a b new (f itself) (flat (λ place. only_if (not (place == target)) (f (other place))) (count_up 0 count) ++ f fresh) g
    (gathers_more b c new (flat (λ place. only_if (not (place == target)) (f (other place))) (count_up 0 count)) (f fresh) h k))

-- as many needs as users with marks
pub marked_length : (users : List MarkedNeed) → length (needs_marked users) ≡ length users
marked_length [] = refl
marked_length (x ∷ xs) = ap suc (marked_length xs)

pub length_marked : (users : List MarkedNeed) (k : ℕ) → k < length users → k < length (needs_marked users)
length_marked users k l = subst (λ n. k < n) (sym (marked_length users)) l

-- an administrator already

-- the first administrators up to one, and those behind it
pub flat_split : {A B : Type 0} (f : A → List B) (xs : List A) (x : A) (ys : List A) → flat f xs ++ (f x ++ flat f ys) ≡ flat f (xs ++ x ∷ ys)
flat_split f [] x ys = refl
flat_split f (z ∷ zs) x ys = append_assoc (f z) (flat f zs) (f x ++ flat f ys) ∙ ap (λ t. f z ++ t) (flat_split f zs x ys)

-- the places that pass, up to one that does
pub places_split : (p : ℕ → Bool) (at n k : ℕ) → at ≤ k → k < at + n → p k ≡ true
    → (low : List ℕ) × (high : List ℕ) × (low ++ k ∷ high ≡ filter p (count_up at n)) × Each (λ j. (j < k) × (p j ≡ true)) low
places_split p at zero k l m e = absurd (omega (arith, l, m))
places_split p at (suc n) k l m e = by_place (eqb at k) refl (λ low high. places_split p (at + 1) n k low high e)
  where
    Split : Bool → Type 0
    Split t =
        (low : List ℕ) × (high : List ℕ) × (low ++ k ∷ high ≡ cond t (at ∷ filter p (count_up (at + 1) n)) (filter p (count_up (at + 1) n)))
        × Each (λ j. (j < k) × (p j ≡ true)) low

    Rest : Type 0
    Rest = (low : List ℕ) × (high : List ℕ) × (low ++ k ∷ high ≡ filter p (count_up (at + 1) n)) × Each (λ j. (j < k) × (p j ≡ true)) low

    by_place : (t : Bool) → eqb at k ≡ t → (at + 1 ≤ k → k < at + 1 + n → Rest) → Split (p at)
    by_place true t again =
        let same : at ≡ k = eqb-true at k t in
        let passed : p at ≡ true = ap p same ∙ e in
        subst Split (sym passed) ([], filter p (count_up (at + 1) n), ap (λ v. v ∷ filter p (count_up (at + 1) n)) (sym same), tt)
    by_place false t again =
        let less : at < k = grind (arith, nat_tests) in
        let rest = again (omega (arith, less)) (omega (arith, m)) in
        by_test (p at) refl less rest.0 rest.1 rest.2 rest.3
      where
        by_test : (s : Bool) → p at ≡ s → at < k → (low high : List ℕ) → low ++ k ∷ high ≡ filter p (count_up (at + 1) n)
            → Each (λ j. (j < k) × (p j ≡ true)) low → Split s
        by_test true f less low high same each = (at ∷ low, high, ap (λ v. at ∷ v) same, ((less, f), each))
        by_test false f less low high same each = (low, high, same, each)

-- one that covers all others, and isn't the same as one before it, is kept alone
pub keeps_one : (known : List (List Need)) (xs : List Entry) (one : Entry) (ys : List Entry)
    → Each (λ (entry : Entry). Covers one.needs entry.needs × ¬ (one.needs ≡ entry.needs)) xs
    → Each (λ (entry : Entry). Covers one.needs entry.needs) ys → Keeps known (xs ++ one ∷ ys) (one ∷ [])
keeps_one known xs one ys before behind = record {
  part = record { to = λ i. length xs + i; rises = λ i j l m. omega (arith, l); each = each };
  left_out = λ place entry at. by_side place entry at (get_side xs (one ∷ ys) place entry at);
}
  where
    here : slice_get (xs ++ one ∷ ys) (length xs) ≡ Some one
    here = let same : length xs + 0 ≡ length xs = omega arith in
        subst (λ n. slice_get (xs ++ one ∷ ys) n ≡ Some one) same (get_right xs (one ∷ ys) 0 one refl)

    each : (i : ℕ) (entry : Entry) → slice_get (one ∷ []) i ≡ Some entry → slice_get (xs ++ one ∷ ys) (length xs + i) ≡ Some entry
    each zero entry at = get_right xs (one ∷ ys) 0 entry at
    each (suc i) entry at = cc

    by_side : (place : ℕ) (entry : Entry) → slice_get (xs ++ one ∷ ys) place ≡ Some entry
        → (slice_get xs place ≡ Some entry) ⊎ ((j : ℕ) × (place ≡ length xs + j) × (slice_get (one ∷ ys) j ≡ Some entry))
        → ((i : ℕ) × (i < 1) × (length xs + i ≡ place)) ⊎ (IsCovered known entry.needs ⊎ ((other : ℕ) × Beats (xs ++ one ∷ ys) other place))
    by_side place entry at (inl h) =
        let parts = each_at (λ (entry : Entry). Covers one.needs entry.needs × ¬ (one.needs ≡ entry.needs)) xs place entry before h in
        inr (inr (length xs, record { by = one; by_is = here; beaten = entry; beaten_is = at; covers = parts.0; apart = inl parts.1 }))
    by_side place entry at (inr h) = by_rest h.0 h.1 h.2
      where
        by_rest : (j : ℕ) → place ≡ length xs + j → slice_get (one ∷ ys) j ≡ Some entry
            → ((i : ℕ) × (i < 1) × (length xs + i ≡ place)) ⊎ (IsCovered known entry.needs ⊎ ((other : ℕ) × Beats (xs ++ one ∷ ys) other place))
        by_rest zero e f = inl (0, omega arith, sym e)
        by_rest (suc j) e f = inr (inr (
          length xs,
          record {
            by = one;
            by_is = here;
            beaten = entry;
            beaten_is = at;
            covers = each_at (λ (entry : Entry). Covers one.needs entry.needs) ys j entry behind f;
            apart = inr (omega (arith, e));
          },
        ))

-- where there is none, none is kept
pub keeps_none : (known : List (List Need)) (xs : List Entry) → Each (λ entry. ⊥) xs → Keeps known xs []
keeps_none known [] h = keeps_all known []
keeps_none known (x ∷ xs) h = absurd h.0

-- of each candidate, by administrator and form
pub each_pick : (P : Entry → Type 0) (parent : ℕ) (ob : Pick → Obligation) (hit : List ℕ) (needs : List Need) (target : ℕ) (before : Need) (ps : List Pick)
    → ((i : ℕ) (p : Pick) → slice_get ps i ≡ Some p → (form : List Need)
    → normal_form (with_admin p target hit (slice_set needs target before)) ≡ Some form
    → P (record { origin = of_parent parent (ob p); needs = form }))
    → Each P (flat (by_pick parent ob hit needs target before) ps)
each_pick P parent ob hit needs target before ps h = each_flat P (by_pick parent ob hit needs target before) ps (λ i p at.
    each_candidate P (of_parent parent (ob p)) (normal_form (with_admin p target hit (slice_set needs target before))) (λ form e. h i p at form e))

-- of an administrator already, before whom none stands, the candidate alone is kept
pub free_keeps : (known : List (List Need)) (parent : ℕ) (ob : Pick → Obligation) (hit : List ℕ) (needs : List Need) (target : ℕ) (raw : Need)
    (some : List Pick) (pick : Pick) (rest : List Pick) → target < length (slice_set needs target raw) → IsFree hit pick target (slice_set needs target raw)
    → Each (λ p. IsPick p target (length (slice_set needs target raw)) × ¬ IsFree hit p target (slice_set needs target raw)) some
    → Keeps known (flat (by_pick parent ob hit needs target raw) (some ++ pick ∷ rest)) (by_pick parent ob hit needs target raw pick)
free_keeps known parent ob hit needs target raw some pick rest l free others =
    subst (λ xs. Keeps known xs (made pick)) (flat_split made some pick rest) (by_form (normal_form (of pick)) refl)
  where
    made : Pick → List Entry
    made = by_pick parent ob hit needs target raw

    of : Pick → List Need
    of p = with_admin p target hit (slice_set needs target raw)

    origin : Origin
    origin = of_parent parent (ob pick)

    never : normal_form (of pick) ≡ None → (ps : List Pick) → Each (λ (entry : Entry). ⊥) (flat made ps)
    never e ps = each_pick (λ (entry : Entry). ⊥) parent ob hit needs target raw ps (λ i p at form f.
        let covering = covering_form (of pick) (of p) form (free_covers_others (slice_set needs target raw) target hit pick p free) f in
        let there = covering.1 in cc)

    covers : (form : List Need) → normal_form (of pick) ≡ Some form → (p : Pick) (its : List Need) → normal_form (of p) ≡ Some its → Covers form its
    covers form e p its f =
        covers_transitive form (of pick) its (normal_both (of pick) form e).1
        (covers_transitive (of pick) (of p) its (free_covers_others (slice_set needs target raw) target hit pick p free) (normal_both (of p) its f).0)

    apart : (form : List Need) → normal_form (of pick) ≡ Some form → (p : Pick) (its : List Need) → normal_form (of p) ≡ Some its
        → IsPick p target (length (slice_set needs target raw)) → ¬ IsFree hit p target (slice_set needs target raw) → form ≡ its → ⊥
    apart form e p its f is n same =
        not_covering_free (slice_set needs target raw) target hit pick p free l is n
        (covers_transitive (of p) its (of pick) (normal_both (of p) its f).0
        (subst (λ v. Covers v (of pick)) same (normal_both (of pick) form e).1))

    by_form : (o : Option (List Need)) → normal_form (of pick) ≡ o
        → Keeps known (flat made some ++ (as_candidate origin o ++ flat made rest)) (as_candidate origin o)
    by_form None e =
        keeps_none known (flat made some ++ flat made rest)
        (each_append (λ (entry : Entry). ⊥) (flat made some) (flat made rest) (never e some) (never e rest))
    by_form (Some form) e =
        keeps_one known (flat made some) (record { origin = origin; needs = form }) (flat made rest)
        (each_pick (λ (entry : Entry). Covers form entry.needs × ¬ (form ≡ entry.needs)) parent ob hit needs target raw some (λ i p at its f.
        let not_free =
        each_at (λ p. IsPick p target (length (slice_set needs target raw)) × ¬ IsFree hit p target (slice_set needs target raw)) some i p others at in
        (covers form e p its f, apart form e p its f not_free.0 not_free.1)))
        (each_pick (λ (entry : Entry). Covers form entry.needs) parent ob hit needs target raw rest (λ i p at its f. covers form e p its f))

-- other administrators up to one of them
pub map_split : (low : List ℕ) (k : ℕ) (high : List ℕ) (end : List Pick)
    → map other low ++ other k ∷ (map other high ++ end) ≡ map other (low ++ k ∷ high) ++ end
map_split [] k high end = refl
map_split (x ∷ low) k high end = ap (λ t. other x ∷ t) (map_split low k high end)

-- a user has a hit within a set where its normal form has one
pub has_raw : (hit : List ℕ) (raw before : Need) → user_form raw ≡ Some before → HasHitWithin hit before → HasHitWithin hit raw
has_raw hit raw before e h =
    let same = (some_cond (list_any is_empty (bare_hits raw)) (normal_need raw) before e).1 in
    hit_covered hit (normal_need raw) raw (normal_covers raw) (subst (HasHitWithin hit) (sym same) h)

-- and the other way round
pub has_form_hit : (hit : List ℕ) (raw before : Need) → user_form raw ≡ Some before → HasHitWithin hit raw → HasHitWithin hit before
has_form_hit hit raw before e h =
    let same = (some_cond (list_any is_empty (bare_hits raw)) (normal_need raw) before e).1 in
    subst (HasHitWithin hit) same (hit_covered hit raw (normal_need raw) (need_normal raw) h)

-- of the first administrator already the candidate alone is kept
pub first_keeps : (known : List (List Need)) (parent : ℕ) (ob : Pick → Obligation) (hit : List ℕ) (needs : List Need) (target : ℕ) (before raw : Need)
    (pick : Pick) → target < length needs → user_form raw ≡ Some before → IsFirstFree hit needs target before pick
    → Keeps known (by_picks parent ob hit needs target raw) (by_pick parent ob hit needs target raw pick)
first_keeps known parent ob hit needs target before raw itself l e first =
    free_keeps known parent ob hit needs target raw [] itself
    (map other (filter (λ place. not (place == target)) (count_up 0 (length needs))) ++ fresh ∷ [])
    (subst (λ n. target < n) (sym (length_set needs target raw)) l)
    (raw, get_set_same needs target raw l, has_raw hit raw before e first) tt
first_keeps known parent ob hit needs target before raw fresh l e first = absurd first
first_keeps known parent ob hit needs target before raw (other place) l e first =
    subst (λ ps. Keeps known (flat (by_pick parent ob hit needs target raw) ps) (by_pick parent ob hit needs target raw (other place))) are
    (free_keeps known parent ob hit needs target raw (itself ∷ map other split.0) (other place) (map other split.1 ++ fresh ∷ [])
    (subst (λ n. target < n) (sym long) l) (free.need, stays place free.apart ∙ free.at, free.has)
    ((tt, not_itself), not_others split.0 split.3))
  where
    free : IsFreePlace hit needs target place
    free = first.1

    long : length (slice_set needs target raw) ≡ length needs
    long = length_set needs target raw

    passes : not (place == target) ≡ true
    passes = rw (ne_eqb place target free.apart) refl

    split : (low : List ℕ) × (high : List ℕ) × (low ++ place ∷ high ≡ filter (λ place. not (place == target)) (count_up 0 (length needs)))
        × Each (λ j. (j < place) × (not (j == target) ≡ true)) low
    split =
        let below = get_below needs place free.need free.at in
        places_split (λ place. not (place == target)) 0 (length needs) place (omega arith) (omega (arith, below)) passes

    are : itself ∷ map other split.0 ++ other place ∷ (map other split.1 ++ fresh ∷ []) ≡ picks target (length needs)
    are = ap (λ ps. itself ∷ ps) (map_split split.0 place split.1 (fresh ∷ []) ∙ ap (λ list. map other list ++ fresh ∷ []) split.2)

    stays : (k : ℕ) → ¬ (k ≡ target) → slice_get (slice_set needs target raw) k ≡ slice_get needs k
    stays k n = get_set_other needs target k raw (λ same. n (sym same))

    not_itself : IsFree hit itself target (slice_set needs target raw) → ⊥
    not_itself is =
        let same : raw ≡ is.0 = same_some raw is.0 (sym (get_set_same needs target raw l) ∙ is.1) in
        first.0 (has_form_hit hit raw before e (subst (HasHitWithin hit) (sym same) is.2))

    not_others : (low : List ℕ) → Each (λ j. (j < place) × (not (j == target) ≡ true)) low
        → Each (λ p. IsPick p target (length (slice_set needs target raw)) × ¬ IsFree hit p target (slice_set needs target raw)) (map other low)
    not_others [] h = tt
    not_others (j ∷ low) h = ((within, none), not_others low h.1)
      where
        less : j < place
        less = h.0.0

        apart : ¬ (j ≡ target)
        apart same = not_true (j == target) h.0.1 (eq-eqb j target same)

        within : (j < length (slice_set needs target raw)) × ¬ (j ≡ target)
        within = let below = get_below needs place free.need free.at in let long' = long in let less' = less in (omega (arith, below, long', less'), apart)

        none : IsFree hit (other j) target (slice_set needs target raw) → ⊥
        none is = first.2 j less (record { apart = apart; need = is.0; at = sym (stays j apart) ∙ is.1; has = is.2 })

-- who has such a hit is told by the mark
pub free_there : (order : Graph) (hit : List ℕ) (users : List MarkedNeed) (target place : ℕ) (one : MarkedNeed) (t : Bool)
    → slice_get users place ≡ Some one → ¬ (place ≡ target) → AreOwnMarks order users → (IsOwnMark order one → IsTrue t ↔ HasHitWithin hit one.need)
    → IsTrue t ↔ IsFreePlace hit (needs_marked users) target place
free_there order hit users target place one t at n own told = (
  λ passed. record { apart = n; need = one.need; at = need_at; has = is.0 passed },
  λ free. is.1 (subst (HasHitWithin hit) (same_some free.need one.need (sym free.at ∙ need_at)) free.has),
)
  where
    is : IsTrue t ↔ HasHitWithin hit one.need
    is = told (each_at (IsOwnMark order) users place one own at)

    need_at : slice_get (needs_marked users) place ≡ Some one.need
    need_at = get_map (λ (user : MarkedNeed). user.need) users place one at

-- the target is none of the others
pub other_target : (parent : ℕ) (ob : Pick → Obligation) (hit : List ℕ) (needs : List Need) (target : ℕ) (before : Need) (place : ℕ) → place ≡ target
    → by_other parent ob hit needs target before place ≡ []
other_target parent ob hit needs target before place same = rw (eq-eqb place target same) refl
