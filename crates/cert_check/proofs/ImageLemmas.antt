-- The lists of what must hold before are those of the obligations' pre-images; and the roles of a range.
use Rattle.std.proofs.Common.{ℕ, ◌≡◌, ◌<◌, ◌+◌, ◌∙◌, Bool, true, false, List, [], ◌∷◌, ◌++◌, length, map, Some, Option, zero, suc}
use Rattle.std.proofs.Common.{refl, sym, ap, subst, arith, eqb, inl, inr, None, get_or}
use Rattle.std.specs.Prelude.{slice_get, slice_set, ◌↔◌, ◌⊎◌}
use Rattle.std.proofs.lemmas.Bool.Decides.{nat_tests}
use Rattle.list_words.specs.Lists.{Each, IsFirst}
use Rattle.list_words.proofs.GetLemmas.{get_any, get_map, get_within, same_some}
use Rattle.list_words.proofs.EachLemmas.{each_of}
use Rattle.std.proofs.lemmas.Bool.{eq-eqb}
use Rattle.list_words.proofs.TestLemmas.{same_test, both_true, and_both, or_cases, or_right}
use Rattle.role_order.specs.Graph.{Graph}
use Rattle.role_order.specs.Roles.{has_role, Rises, IsIn}
use Rattle.role_order.specs.Ranges.{IsInRange}
use Rattle.role_order.specs.Reach.{count_up, seniors_of}
use Rattle.role_order.specs.Refusals.{IsOrder}
use Rattle.role_order.specs.declared.range.Range.{Range}
use Rattle.role_order.proofs.SetLemmas.{same_set, has_role-filter, has_role-count_up, rises-filter, rises-count_up}
use Rattle.arbac_policy.specs.declared.rule.CanAssign.{CanAssign}
use Rattle.arbac_policy.specs.declared.rule.CanRevoke.{CanRevoke}
use Rattle.arbac_policy.specs.Truth.{term_of}
use Rattle.arbac_policy.specs.Rules.{Rules, policy_of}
use Rattle.arbac_laws.specs.Needs.{Need}
use Rattle.arbac_laws.specs.Conjuncts.{conjuncts}
use Rattle.arbac_laws.specs.PreImages.{Pick, with_admin}
use Rattle.arbac_laws.specs.Obligations.{Obligation, assigns, revokes, and_then, flat, flat_places, if_wanted, is_in_range, roles_in, picks}
use Rattle.arbac_laws.specs.Obligations.{obligations, assign_obligations, weak_obligations, pre_image}
use Rattle.arbac_laws.proofs.ConjunctLemmas.{are_seniors}
use Rattle.arbac_laws.proofs.FlatLemmas.{in_range, range_in}
use Rattle.cert_check.specs.Asked.{IsOpen}
use Rattle.cert_check.specs.Rulebooks.{conjuncts_of}
use Rattle.cert_check.specs.Passing.{Counts, IsMissed, only_if, is_of_use, before_by, by_before, by_role, by_range, by_assign, by_revoke}
use Rattle.cert_check.proofs.PickLemmas.{map_append}

-- maps of nested lists

pub map_same : {A B C : Type 0} (h : B → C) (f : A → B) (g : A → C) → ((x : A) → h (f x) ≡ g x) → (xs : List A) → map h (map f xs) ≡ map g xs
map_same h f g same [] = refl
map_same h f g same (x ∷ xs) = ap (λ y. y ∷ map h (map f xs)) (same x) ∙ ap (λ l. g x ∷ l) (map_same h f g same xs)

pub map_flat : {A B C : Type 0} (h : B → C) (f : A → List B) (g : A → List C) → ((x : A) → map h (f x) ≡ g x) → (xs : List A)
    → map h (flat f xs) ≡ flat g xs
map_flat h f g same [] = refl
map_flat h f g same (x ∷ xs) =
    map_append h (f x) (flat f xs) ∙ ap (λ l. l ++ map h (flat f xs)) (same x) ∙ ap (λ l. g x ++ l) (map_flat h f g same xs)

pub map_places : {A B C : Type 0} (h : B → C) (f : ℕ → A → List B) (g : A → List C) (at : ℕ) (xs : List A)
    → ((i : ℕ) (x : A) → slice_get xs i ≡ Some x → map h (f (at + i) x) ≡ g x) → map h (flat_places f at xs) ≡ flat g xs
map_places h f g at [] same = refl
map_places h f g at (x ∷ xs) same =
    let here : at + 0 ≡ at = omega arith in
    map_append h (f at x) (flat_places f (at + 1) xs)
    ∙ ap (λ l. l ++ map h (flat_places f (at + 1) xs)) (subst (λ k. map h (f k x) ≡ g x) here (same 0 x refl))
    ∙ ap (λ l. g x ++ l) (map_places h f g (at + 1) xs (λ i y e.
    let next : at + suc i ≡ (at + 1) + i = omega arith in subst (λ k. map h (f k y) ≡ g y) next (same (suc i) y e)))

-- from place 0 on
pub map_places_0 : {A B C : Type 0} (h : B → C) (f : ℕ → A → List B) (g : A → List C) (xs : List A)
    → ((i : ℕ) (x : A) → slice_get xs i ≡ Some x → map h (f i x) ≡ g x) → map h (flat_places f 0 xs) ≡ flat g xs
map_places_0 h f g xs same = map_places h f g 0 xs (λ i x e.
    let here : i ≡ 0 + i = omega arith in subst (λ k. map h (f k x) ≡ g x) here (same i x e))

-- the targets of whom the test is true
pub map_targets : {B C : Type 0} (h : B → C) (f : ℕ → List B) (test : Need → Bool) (g : ℕ → Need → List C) (at : ℕ) (needs : List Need)
    → ((i : ℕ) (need : Need) → slice_get needs i ≡ Some need → map h (f (at + i)) ≡ g (at + i) need)
    → map h (flat f (flat_places (λ place need. if_wanted (test need) place) at needs))
    ≡ flat_places (λ place need. only_if (test need) (g place need)) at needs
map_targets h f test g at [] same = refl
map_targets h f test g at (need ∷ needs) same =
    by_test (test need) refl
    (map_targets h f test g (at + 1) needs (λ i one e.
    let next : at + suc i ≡ (at + 1) + i = omega arith in subst (λ k. map h (f k) ≡ g k one) next (same (suc i) one e)))
  where
    by_test : (t : Bool) → test need ≡ t
        → map h (flat f (flat_places (λ place need. if_wanted (test need) place) (at + 1) needs))
        ≡ flat_places (λ place need. only_if (test need) (g place need)) (at + 1) needs
        → map h (flat f (if_wanted (test need) at ++ flat_places (λ place need. if_wanted (test need) place) (at + 1) needs))
        ≡ only_if (test need) (g at need) ++ flat_places (λ place need. only_if (test need) (g place need)) (at + 1) needs
    by_test true e rest =
        let here : at + 0 ≡ at = omega arith in
        let left = flat_places (λ place need. if_wanted (test need) place) (at + 1) needs in
        rw e (map_append h (f at) (flat f left)
        ∙ ap (λ l. l ++ map h (flat f left)) (subst (λ k. map h (f k) ≡ g k need) here (same 0 need refl))
        ∙ ap (λ l. g at need ++ l) rest)
    by_test false e rest = rw e rest

-- from place 0 on
pub map_targets_0 : {B C : Type 0} (h : B → C) (f : ℕ → List B) (test : Need → Bool) (g : ℕ → Need → List C) (needs : List Need)
    → ((i : ℕ) (need : Need) → slice_get needs i ≡ Some need → map h (f i) ≡ g i need)
    → map h (flat f (flat_places (λ place need. if_wanted (test need) place) 0 needs))
    ≡ flat_places (λ place need. only_if (test need) (g place need)) 0 needs
map_targets_0 h f test g needs same = map_targets h f test g 0 needs (λ i need e.
    let here : i ≡ 0 + i = omega arith in subst (λ k. map h (f k) ≡ g k need) here (same i need e))

-- the pre-images of the acts of one rule with one conjunct
pub range_images : (rules : Rules) (needs : List Need) (given : Option Need) (hit : List ℕ) (range : Range) (act : ℕ → ℕ → Pick → Obligation)
    → ((role target : ℕ) (pick : Pick) (need : Need) → slice_get needs target ≡ Some need → pre_image rules needs (act role target pick)
    ≡ and_then (before_by rules given role need) (λ one. Some (with_admin pick target hit (slice_set needs target one))))
    → map (pre_image rules needs) (flat (λ role. flat (λ target. map (act role target) (picks target (length needs)))
    (flat_places (λ place need. if_wanted (is_of_use given role need) place) 0 needs)) (roles_in rules.order range))
    ≡ by_range rules given hit range needs
range_images rules needs given hit range act same =
    map_flat (pre_image rules needs) (λ role. flat (λ target. map (act role target) (picks target (length needs)))
    (flat_places (λ place need. if_wanted (is_of_use given role need) place) 0 needs)) (by_role rules given hit needs)
    (λ role. map_targets_0 (pre_image rules needs) (λ target. map (act role target) (picks target (length needs))) (is_of_use given role)
    (λ target need. by_before hit needs target (before_by rules given role need)) needs
    (λ target need at. map_same (pre_image rules needs) (act role target)
    (λ pick. and_then (before_by rules given role need) (λ one. Some (with_admin pick target hit (slice_set needs target one))))
    (λ pick. same role target pick need at) (picks target (length needs))))
    (roles_in rules.order range)

pub assign_images : (rules : Rules) (needs : List Need)
    → map (pre_image rules needs) (assign_obligations rules needs) ≡ flat (by_assign rules needs) rules.assign
assign_images rules needs =
    map_places_0 (pre_image rules needs) _ (by_assign rules needs) rules.assign (λ i rule at.
    map_places_0 (pre_image rules needs) _ (λ conjunct. by_range rules (Some conjunct) (seniors_of rules.order rule.admin) rule.range needs)
    (conjuncts rules.order (term_of rule.cond)) (λ j conjunct there.
    range_images rules needs (Some conjunct) (seniors_of rules.order rule.admin) rule.range (assigns i j)
    (λ role target pick need held. rw (at, there, held) refl)))

pub weak_images : (rules : Rules) (needs : List Need)
    → map (pre_image rules needs) (weak_obligations rules needs) ≡ flat (by_revoke rules needs) rules.revoke
weak_images rules needs =
    map_places_0 (pre_image rules needs) _ (by_revoke rules needs) rules.revoke (λ i rule at.
    range_images rules needs None (seniors_of rules.order rule.admin) rule.range (revokes i)
    (λ role target pick need held. rw (at, held) refl))

pub images_are : (rules : Rules) (needs : List Need)
    → map (pre_image rules needs) (obligations rules needs) ≡ flat (by_assign rules needs) rules.assign ++ flat (by_revoke rules needs) rules.revoke
images_are rules needs =
    map_append (pre_image rules needs) (assign_obligations rules needs) (weak_obligations rules needs)
    ∙ ap (λ l. l ++ map (pre_image rules needs) (weak_obligations rules needs)) (assign_images rules needs)
    ∙ ap (λ l. flat (by_assign rules needs) rules.assign ++ l) (weak_images rules needs)

-- what is found among pre-images is found among obligations

pub first_mapped : {A B : Type 0} (h : A → B) (P : B → Type 0) (xs : List A) (k : ℕ) → IsFirst P (map h xs) k → IsFirst (λ x. P (h x)) xs k
first_mapped h P xs k first =
    let there = at_mapped xs k first.item first.at in
    record {
      item = there.0;
      at = there.1;
      holds = subst P (sym there.2) first.holds;
      none_before = λ j x l e. first.none_before j (h x) l (get_map h xs j x e);
    }
  where
    at_mapped : (ys : List _) (j : ℕ) (y : _) → slice_get (map h ys) j ≡ Some y → (x : _) × (slice_get ys j ≡ Some x) × (h x ≡ y)
    at_mapped [] j y e = cc
    at_mapped (x ∷ ys) zero y e = (x, refl, same_some (h x) y e)
    at_mapped (x ∷ ys) (suc j) y e = at_mapped ys j y e

pub each_of_mapped : {A B : Type 0} (h : A → B) (Q : B → Type 0) (xs : List A) → Each Q (map h xs) → Each (λ x. Q (h x)) xs
each_of_mapped h Q [] e = tt
each_of_mapped h Q (x ∷ xs) e = (e.0, each_of_mapped h Q xs e.1)

pub found_open : (rules : Rules) (members : List (List Need)) (needs : List Need) (place : ℕ)
    → Counts (IsMissed members) (flat (by_assign rules needs) rules.assign ++ flat (by_revoke rules needs) rules.revoke) 0 true place
    → IsFirst (IsOpen rules members needs) (obligations rules needs) place
found_open rules members needs place h =
    let on = h.1 in
    let same : h.0 ≡ place = omega (arith, on) in
    first_mapped (pre_image rules needs) (IsMissed members) (obligations rules needs) place
    (subst (λ l. IsFirst (IsMissed members) l place) (sym (images_are rules needs)) (subst (λ k. IsFirst (IsMissed members) _ k) same h.2))

pub none_open : (rules : Rules) (members : List (List Need)) (needs : List Need) (place : ℕ)
    → Counts (IsMissed members) (flat (by_assign rules needs) rules.assign ++ flat (by_revoke rules needs) rules.revoke) 0 false place
    → Each (λ ob. ¬ IsOpen rules members needs ob) (obligations rules needs)
none_open rules members needs place h =
    each_of_mapped (pre_image rules needs) (λ image. ¬ IsMissed members image) (obligations rules needs)
    (subst (λ l. Each (λ image. ¬ IsMissed members image) l) (sym (images_are rules needs)) h.1)

pub counted : (at n role : ℕ) → has_role (count_up at n) role ≡ true → role < at + n
counted at zero role h = cc
counted at (suc n) role h = by_case (or_cases (eqb at role) (has_role (count_up (at + 1) n) role) h) (counted (at + 1) n role)
  where
    by_case : (eqb at role ≡ true) ⊎ (has_role (count_up (at + 1) n) role ≡ true)
        → (has_role (count_up (at + 1) n) role ≡ true → role < (at + 1) + n) → role < at + suc n
    by_case (inl e) rest = let same : at ≡ role = grind (arith, nat_tests) in omega (arith, same)
    by_case (inr i) rest = let l = rest i in omega (arith, l)

-- a set that has the roles of the range is their list
pub range_is : (order : Graph) → IsOrder order.names order.edges → (range : Range) (set : List ℕ) → Rises set
    → ((role : ℕ) → IsIn set role ↔ IsInRange order range role) → set ≡ roles_in order range
range_is order ok range set rises same =
    same_set set (roles_in order range) rises
    (rises-filter (is_in_range order range) (count_up 0 (length order.names)) (rises-count_up 0 (length order.names)))
    (λ role. same_test (has_role set role) (has_role (roles_in order range) role) (λ i. into role ((same role).0 i)) (λ i. (same role).1 (out role i)))
  where
    into : (role : ℕ) → IsInRange order range role → has_role (roles_in order range) role ≡ true
    into role h =
        has_role-filter (is_in_range order range) (count_up 0 (length order.names)) role
        ∙ both_true (has_role (count_up 0 (length order.names)) role) (is_in_range order range role)
        (has_role-count_up 0 (length order.names) role (omega arith) (let l = h.is_role in omega (arith, l)))
        (in_range (policy_of order [] [] [] [] []) (are_seniors order ok.ends) range role h)

    out : (role : ℕ) → has_role (roles_in order range) role ≡ true → IsInRange order range role
    out role h =
        let both = and_both (has_role (count_up 0 (length order.names)) role) (is_in_range order range role)
        (sym (has_role-filter (is_in_range order range) (count_up 0 (length order.names)) role) ∙ h) in
        range_in (policy_of order [] [] [] [] []) (are_seniors order ok.ends) range role
        (let l = counted 0 (length order.names) role both.0 in omega (arith, l)) both.1

-- the roles of a range are known
pub roles_known : (order : Graph) (range : Range) (set : List ℕ) → ((role : ℕ) → IsIn set role ↔ IsInRange order range role)
    → Each (λ role. role < length order.names) set
roles_known order range set same = each_of (λ role. role < length order.names) set (λ k role at. let h = (same role).0 (in_at set k role at) in h.is_role)
  where
    in_at : (xs : List ℕ) (k role : ℕ) → slice_get xs k ≡ Some role → has_role xs role ≡ true
    in_at [] k role e = cc
    in_at (x ∷ xs) zero role e = let here : eqb x role ≡ true = eq-eqb x role (same_some x role e) in rw here refl
    in_at (x ∷ xs) (suc k) role e = or_right (eqb x role) (has_role xs role) (in_at xs k role e)

-- the item at a place of a list that is seen as another one
pub item_is : {A : Type 0} (xs ys : List A) (i : ℕ) (x y d : A) → ys ≡ xs → slice_get xs i ≡ Some x → y ≡ get_or ys i d → y ≡ x
item_is xs ys i x y d same at is =
    let there = get_within xs i x at in
    is ∙ ap (λ l. get_or l i d) same ∙ get_any xs i d x there.0 ∙ sym there.1

-- the acts of the rule to assign
pub assign_counts : (members : List (List Need)) (rules : Rules) (needs : List Need) (order : Graph) (one rule : CanAssign) (list : List Need)
    (hit : List ℕ) (from to : ℕ) (found : Bool) → one ≡ rule → order ≡ rules.order → list ≡ conjuncts_of rules rule → hit ≡ seniors_of order one.admin
    → Counts (IsMissed members) (flat (λ conjunct. by_range rules (Some conjunct) hit one.range needs) list) from found to
    → Counts (IsMissed members) (by_assign rules needs rule) from found to
assign_counts members rules needs order one rule list hit from to found same order_is list_is hit_is h =
    let is : hit ≡ seniors_of rules.order rule.admin =
    hit_is ∙ ap (λ o. seniors_of o one.admin) order_is ∙ ap (λ (r : CanAssign). seniors_of rules.order r.admin) same in
    subst (λ (l : List Need). Counts (IsMissed members)
    (flat (λ (conjunct : Need). by_range rules (Some conjunct) (seniors_of rules.order rule.admin) rule.range needs) l) from found to) list_is
    (subst (λ (s : List ℕ). Counts (IsMissed members) (flat (λ (conjunct : Need). by_range rules (Some conjunct) s rule.range needs) list) from found to) is
    (subst (λ (r : CanAssign). Counts (IsMissed members) (flat (λ (conjunct : Need). by_range rules (Some conjunct) hit r.range needs) list) from found to)
    same h))

-- the acts of the rule to revoke
pub revoke_counts : (members : List (List Need)) (rules : Rules) (needs : List Need) (order : Graph) (one rule : CanRevoke)
    (hit : List ℕ) (from to : ℕ) (found : Bool) → one ≡ rule → order ≡ rules.order → hit ≡ seniors_of order one.admin
    → Counts (IsMissed members) (by_range rules None hit one.range needs) from found to
    → Counts (IsMissed members) (by_revoke rules needs rule) from found to
revoke_counts members rules needs order one rule hit from to found same order_is hit_is h =
    let is : hit ≡ seniors_of rules.order rule.admin =
    hit_is ∙ ap (λ o. seniors_of o one.admin) order_is ∙ ap (λ (r : CanRevoke). seniors_of rules.order r.admin) same in
    subst (λ (s : List ℕ). Counts (IsMissed members) (by_range rules None s rule.range needs) from found to) is
    (subst (λ (r : CanRevoke). Counts (IsMissed members) (by_range rules None hit r.range needs) from found to) same h)
