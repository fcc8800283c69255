-- Whatever is wanted before a barrier is covered by it, and no users that can be drawn meet it.
use Rattle.std.proofs.Common.{ℕ, ◌≡◌, ◌<◌, ◌+◌, List, [], ◌∷◌, ◌++◌, length, Some, arith, zero, suc, sym, ◌∙◌, eqb, Bool}
use Rattle.std.proofs.Common.{true, false, not, ◌||◌, cond, subst, refl, inl, inr}
use Rattle.std.specs.Prelude.{slice_get, slice_set, ◌⊎◌, filter}
use Rattle.std.proofs.lemmas.Bool.{eqb-true, eq-eqb}
use Rattle.role_order.proofs.ReachLemmas.{leads_from_below}
use Rattle.role_order.proofs.SetLemmas.{has_role-count_up, has_role-filter}
use Rattle.list_words.proofs.TestLemmas.{and_both, both_true, or_right, not_true}
use Rattle.role_order.specs.Graph.{AreEdges, Graph}
use Rattle.list_words.specs.Lists.{Each, IsOneOf, Some_of}
use Rattle.role_order.specs.Reach.{count_up, seniors_of}
use Rattle.role_order.specs.Roles.{AreBelow, HaveCommon, IsIn, IsOut, IsWithin, has_role, join_roles, less_roles}
use Rattle.arbac_policy.specs.Goals.{AreUsers, IsDrawn, times}
use Rattle.arbac_policy.specs.Rules.{IsKnownAssign, IsPolicy, Rules}
use Rattle.arbac_policy.specs.Truth.{IsKnown, Term, term_of, any, has, lacks, both, either}
use Rattle.arbac_policy.specs.declared.profile.Profile.{Profile}
use Rattle.arbac_policy.specs.declared.rule.CanAssign.{CanAssign}
use Rattle.arbac_laws.specs.Barriers.{HasGains, barrier, barriers, outside}
use Rattle.arbac_laws.specs.Closed.{IsUnmet}
use Rattle.arbac_laws.specs.Conjuncts.{conjuncts, join_all, join_with}
use Rattle.arbac_laws.specs.Needs.{Covers, CoversNeed, HasHits, IsCovered, Meets, Need}
use Rattle.arbac_laws.specs.Obligations.{Obligation, obligations, pre_image}
use Rattle.arbac_laws.specs.PreImages.{AssignObligation, IsPick, Pick, WeakObligation, add_hit, assign_pre_image, barred, is_barred, is_empty}
use Rattle.arbac_laws.specs.PreImages.{weak_pre_image, with_admin, itself, other, fresh}
use Rattle.arbac_laws.proofs.ConjunctLemmas.{AreSeniors}
use Rattle.list_words.proofs.EachLemmas.{each_append, each_at, some_right, some_weaker}
use Rattle.arbac_laws.proofs.ObligationLemmas.{IsAssigning, IsRevoking, in_parts}
use Rattle.list_words.proofs.CountLemmas.{count}
use Rattle.arbac_laws.proofs.RoleLemmas.{cases_in, less_in}
use Rattle.list_words.proofs.GetLemmas.{some_cond}

pub in_outside : (count : ℕ) (set : List ℕ) (role : ℕ) → role < count → IsOut set role → IsIn (outside count set) role
in_outside count set role l o = has_role-filter (λ r. not (has_role set r)) (count_up 0 count) role
    ∙ both_true (has_role (count_up 0 count) role) (not (has_role set role)) (has_role-count_up 0 count role (omega arith) (omega arith)) (rw o refl)

pub outside_out : (count : ℕ) (set : List ℕ) (role : ℕ) → IsIn (outside count set) role → IsIn set role → ⊥
outside_out count set role h k =
    let b = and_both (has_role (count_up 0 count) role) (not (has_role set role))
    (sym (has_role-filter (λ r. not (has_role set r)) (count_up 0 count) role) ∙ h) in
    not_true (has_role set role) b.1 k

-- a set below the count meets the other, or lies outside it
pub common_or_outside : (count : ℕ) (set xs : List ℕ) → AreBelow count xs → HaveCommon xs set ⊎ IsWithin xs (outside count set)
common_or_outside count set [] below = inr (λ r h. cc)
common_or_outside count set (x ∷ xs) below =
    by_case (cases_in set x) (common_or_outside count set xs (λ r h. below r (or_right (eqb x r) (has_role xs r) h)))
  where
    own : IsIn (x ∷ xs) x
    own = rw (eq-eqb x x refl) refl

    by_case : IsIn set x ⊎ IsOut set x → HaveCommon xs set ⊎ IsWithin xs (outside count set) → HaveCommon (x ∷ xs) set
        ⊎ IsWithin (x ∷ xs) (outside count set)
    by_case (inl held) rest = inl (x, own, held)
    by_case (inr out) (inl c) = inl (c.0, or_right (eqb x c.0) (has_role xs c.0) c.1, c.2)
    by_case (inr out) (inr w) = inr within
      where
        within : IsWithin (x ∷ xs) (outside count set)
        within r h = by_head (eqb x r) refl h
          where
            by_head : (t : Bool) → eqb x r ≡ t → (t || has_role xs r) ≡ true → IsIn (outside count set) r
            by_head true e k =
                let l : x < count = below x own in
                let here : IsIn (outside count set) x = in_outside count set x l out in
                subst (λ v. IsIn (outside count set) v) (eqb-true x r e) here
            by_head false e k = w r k

-- each hit meets the set, or one lies outside it
pub hits_or_outside : (count : ℕ) (set : List ℕ) (hits : List (List ℕ)) → Each (AreBelow count) hits → HasHits set hits
    ⊎ Some_of (λ hit. IsWithin hit (outside count set)) hits
hits_or_outside count set [] b = inl tt
hits_or_outside count set (hit ∷ hits) b = by_case (common_or_outside count set hit b.0) (hits_or_outside count set hits b.1)
  where
    by_case : HaveCommon hit set ⊎ IsWithin hit (outside count set) → HasHits set hits ⊎ Some_of (λ hit. IsWithin hit (outside count set)) hits
        → HasHits set (hit ∷ hits) ⊎ Some_of (λ hit. IsWithin hit (outside count set)) (hit ∷ hits)
    by_case (inr w) rest = inr (inl w)
    by_case (inl c) (inl h) = inl (c, h)
    by_case (inl c) (inr s) = inr (inr s)

-- one user whose hit lies outside is covered
pub covered_at : (count : ℕ) (set : List ℕ) (needs : List Need) (i : ℕ) (need : Need) → slice_get needs i ≡ Some need
    → Some_of (λ hit. IsWithin hit (outside count set)) need.hits → Covers (barrier count set) needs
covered_at count set needs i need is within = record {
  to = λ k. i;
  apart = λ j k l m e. omega arith;
  each = λ k x e. (
    need,
    is,
    subst (λ n. CoversNeed n need) (first k x e) (record {
      hits = (
        some_weaker (λ hit. IsWithin hit (outside count set)) (λ other. IsWithin (less_roles other need.lacks) (outside count set))
            (λ other w r m. w r (less_in other need.lacks r m)) need.hits within,
        tt,
      );
      lacks = λ r h. cc;
    }),
  );
}
  where
    wall : Need
    wall = record { hits = outside count set ∷ []; lacks = [] }

    first : (k : ℕ) (x : Need) → slice_get (wall ∷ []) k ≡ Some x → wall ≡ x
    first zero x e = let e' : Some wall ≡ Some x = e in cc
    first (suc k) x e = cc

-- the roles of administrators and of hits are below the count

pub record AreRolesBelow (rules : Rules) : Type 0 where
  pub admins : (rule : CanAssign) → IsOneOf rules.assign rule → AreBelow (length rules.order.names) (seniors_of rules.order rule.admin)
  pub hits : (rule : CanAssign) → IsOneOf rules.assign rule → (conjunct : Need) → IsOneOf (conjuncts rules.order (term_of rule.cond)) conjunct
      → Each (AreBelow (length rules.order.names)) conjunct.hits

pub seniors_below : (order : Graph) → AreSeniors order → AreEdges (length order.names) order.edges → (role : ℕ) → role < length order.names
    → AreBelow (length order.names) (seniors_of order role)
seniors_below order same ends role l senior h = by_case (leads_from_below ((same role senior).0 h) (length order.names) ends)
  where
    by_case : (senior ≡ role) ⊎ (senior < length order.names) → senior < length order.names
    by_case (inl e) = subst (λ r. r < length order.names) (sym e) l
    by_case (inr m) = m

abbrev pub AreHitsBelow : ℕ → Need → Type 0
AreHitsBelow count need = Each (AreBelow count) need.hits

pub with_below : (count : ℕ) (a : Need) (bs : List Need) → AreHitsBelow count a → Each (AreHitsBelow count) bs
    → Each (AreHitsBelow count) (join_with a bs)
with_below count a [] h k = tt
with_below count a (b ∷ bs) h k = (each_append (AreBelow count) a.hits b.hits h k.0, with_below count a bs h k.1)

pub all_below : (count : ℕ) (xs bs : List Need) → Each (AreHitsBelow count) xs → Each (AreHitsBelow count) bs
    → Each (AreHitsBelow count) (join_all xs bs)
all_below count [] bs h k = tt
all_below count (a ∷ xs) bs h k =
    each_append (AreHitsBelow count) (join_with a bs) (join_all xs bs) (with_below count a bs h.0 k) (all_below count xs bs h.1 k)

pub conjuncts_below : (order : Graph) → AreSeniors order → AreEdges (length order.names) order.edges → (cond : Term) → IsKnown (length order.names) cond
    → Each (AreHitsBelow (length order.names)) (conjuncts order cond)
conjuncts_below order same ends any h = (tt, tt)
conjuncts_below order same ends (has role) h = ((seniors_below order same ends role h, tt), tt)
conjuncts_below order same ends (lacks role) h = (tt, tt)
conjuncts_below order same ends (both left right) h =
    all_below (length order.names) (conjuncts order left) (conjuncts order right) (conjuncts_below order same ends left h.0)
    (conjuncts_below order same ends right h.1)
conjuncts_below order same ends (either left right) h =
    each_append (AreHitsBelow (length order.names)) (conjuncts order left) (conjuncts order right) (conjuncts_below order same ends left h.0)
    (conjuncts_below order same ends right h.1)

pub roles_below : (rules : Rules) → AreSeniors rules.order → AreEdges (length rules.order.names) rules.order.edges → IsPolicy rules
    → AreRolesBelow rules
roles_below rules same ends policy = record {
  admins = λ rule is. seniors_below rules.order same ends rule.admin (known rule is).admin;
  hits = λ rule is conjunct at. each_at (AreHitsBelow (length rules.order.names)) (conjuncts rules.order (term_of rule.cond)) at.0 conjunct
      (conjuncts_below rules.order same ends (term_of rule.cond) (known rule is).cond) at.1;
}
  where
    known : (rule : CanAssign) → IsOneOf rules.assign rule → IsKnownAssign (length rules.order.names) rule
    known rule is = each_at (IsKnownAssign (length rules.order.names)) rules.assign is.0 rule policy.assign is.1

-- pre-images of the barrier

pub assign_covered : (rules : Rules) (profiles : List Profile) (set : List ℕ) → HasGains rules profiles set → AreRolesBelow rules
    → (ob : AssignObligation rules (barrier (length rules.order.names) set)) → Covers (barrier (length rules.order.names) set) (assign_pre_image ob)
assign_covered rules profiles set ceiling below ob = by_place ob.target ob.need_is ob.is_pick
  where
    wall : Need
    wall = record { hits = outside (length rules.order.names) set ∷ []; lacks = [] }

    hit : List ℕ
    hit = seniors_of rules.order ob.rule.admin

    IsThere : ℕ → Type 0
    IsThere t = Covers (barrier (length rules.order.names) set) (with_admin ob.pick t hit (slice_set (barrier (length rules.order.names) set) t ob.before))

    -- the need with its hits, and a hit of the administrator at itself
    at_target : Some_of (λ hit. IsWithin hit (outside (length rules.order.names) set)) ob.before.hits → (pick : Pick) → IsPick pick 0 1
        → Covers (barrier (length rules.order.names) set) (with_admin pick 0 hit (ob.before ∷ []))
    at_target w itself is = covered_at (length rules.order.names) set (add_hit hit ob.before ∷ []) 0 (add_hit hit ob.before) refl (inr w)
    at_target w (other place) is = absurd (let l = is.0 in let n = is.1 in n (omega arith))
    at_target w fresh is = covered_at (length rules.order.names) set (ob.before ∷ record { hits = hit ∷ []; lacks = [] } ∷ []) 0 ob.before refl w

    at_admin : IsWithin hit (outside (length rules.order.names) set) → (pick : Pick) → IsPick pick 0 1
        → Covers (barrier (length rules.order.names) set) (with_admin pick 0 hit (ob.before ∷ []))
    at_admin w itself is = covered_at (length rules.order.names) set (add_hit hit ob.before ∷ []) 0 (add_hit hit ob.before) refl (inl w)
    at_admin w (other place) is = absurd (let l = is.0 in let n = is.1 in n (omega arith))
    at_admin w fresh is =
        covered_at (length rules.order.names) set (ob.before ∷ record { hits = hit ∷ []; lacks = [] } ∷ []) 1
        (record { hits = hit ∷ []; lacks = [] }) refl (inl w)

    more : Need → List ℕ
    more need = join_roles need.lacks (join_roles ob.conjunct.lacks (barred rules.order ob.role rules.exclusive))

    kept : Some_of (λ hit. IsWithin hit (outside (length rules.order.names) set)) ob.conjunct.hits
        → Some_of (λ hit. IsWithin hit (outside (length rules.order.names) set)) ob.before.hits
    kept w =
        let made : Need = record { hits = filter (λ hit. not (has_role hit ob.role)) ob.need.hits ++ ob.conjunct.hits; lacks = more ob.need } in
        let same = (some_cond (has_role ob.need.lacks ob.role || is_barred rules.order ob.role rules.exclusive) made ob.before ob.before_is).1 in
        subst (λ (n : Need). Some_of (λ hit. IsWithin hit (outside (length rules.order.names) set)) n.hits) same
        (some_right (λ hit. IsWithin hit (outside (length rules.order.names) set))
        (filter (λ hit. not (has_role hit ob.role)) ob.need.hits) ob.conjunct.hits w)

    role_out : wall ≡ ob.need → IsIn set ob.role → ⊥
    role_out e held = by_hit (subst (λ (n : Need). Some_of (λ hit. IsIn hit ob.role) n.hits) (sym e) ob.wanted)
      where
        by_hit : Some_of (λ hit. IsIn hit ob.role) (outside (length rules.order.names) set ∷ []) → ⊥
        by_hit (inl h) = outside_out (length rules.order.names) set ob.role h held
        by_hit (inr h) = h

    by_place : (t : ℕ) → slice_get (wall ∷ []) t ≡ Some ob.need → IsPick ob.pick t 1 → IsThere t
    by_place (suc t) e is = cc
    by_place zero e is =
        by_admin (common_or_outside (length rules.order.names) set hit (below.admins ob.rule ob.is_rule))
        (hits_or_outside (length rules.order.names) set ob.conjunct.hits (below.hits ob.rule ob.is_rule ob.conjunct ob.is_conjunct))
      where
        by_admin : HaveCommon hit set ⊎ IsWithin hit (outside (length rules.order.names) set) → HasHits set ob.conjunct.hits
            ⊎ Some_of (λ hit. IsWithin hit (outside (length rules.order.names) set)) ob.conjunct.hits → IsThere 0
        by_admin (inr w) rest = at_admin w ob.pick is
        by_admin (inl c) (inr w) = at_target (kept w) ob.pick is
        by_admin (inl c) (inl h) =
            let e' : Some wall ≡ Some ob.need = e in let same : wall ≡ ob.need = cc in
            absurd (role_out same (ceiling.given ob.rule ob.is_rule c ob.conjunct ob.is_conjunct h ob.role ob.in_range))

-- a place that is drawn is counted
pub drawn_profile : (profiles : List Profile) (choice : List ℕ) (users : List (List ℕ)) → AreUsers profiles choice users → (i : ℕ) (set : List ℕ)
    → slice_get users i ≡ Some set
    → (place : ℕ) × (profile : Profile) × (slice_get profiles place ≡ Some profile) × (set ≡ profile.set) × (0 < times place choice)
drawn_profile profiles [] [] are i set e = cc
drawn_profile profiles [] (u ∷ us) are i set e = absurd are
drawn_profile profiles (p ∷ ps) [] are i set e = absurd are
drawn_profile profiles (p ∷ ps) (u ∷ us) are zero set e =
    let e' : Some u ≡ Some set = e in let same : u ≡ set = cc in
    let one : eqb p p ≡ true = eq-eqb p p refl in
    (p, are.0.0, are.0.1, sym same ∙ are.0.2, rw one (omega arith))
drawn_profile profiles (p ∷ ps) (u ∷ us) are (suc i) set e =
    let r = drawn_profile profiles ps us are.1 i set e in
    let l = r.4 in (r.0, r.1, r.2, r.3, more (eqb p r.0) (times r.0 ps) l)
  where
    more : (t : Bool) (n : ℕ) → 0 < n → 0 < cond t 1 0 + n
    more true n l = omega arith
    more false n l = omega arith

pub barrier_unmet : (rules : Rules) (profiles : List Profile) (set : List ℕ) → HasGains rules profiles set → (users : List (List ℕ))
    → IsDrawn profiles users → Meets users (barrier (length rules.order.names) set) → ⊥
barrier_unmet rules profiles set ceiling users drawn f =
    let one = f.each 0 (record { hits = outside (length rules.order.names) set ∷ []; lacks = [] }) refl in
    let d = drawn_profile profiles drawn.choice users drawn.are_users (f.to 0) one.0 one.1 in
    let common = one.2.hits.0 in
    outside_out (length rules.order.names) set common.0 common.1
    (ceiling.drawn d.1 (d.0, d.2) (λ none. let few = drawn.drawn.few d.0 d.1 0 d.2 none in let l = d.4 in omega (arith, few, l)) common.0
    (subst (λ s. IsIn s common.0) d.3 common.2))

pub weak_covered : (rules : Rules) (set : List ℕ) → (ob : WeakObligation rules (barrier (length rules.order.names) set))
    → Covers (barrier (length rules.order.names) set) (weak_pre_image ob)
weak_covered rules set ob = absurd (by_place ob.target ob.need_is)
  where
    wall : Need
    wall = record { hits = outside (length rules.order.names) set ∷ []; lacks = [] }

    by_place : (t : ℕ) → slice_get (wall ∷ []) t ≡ Some ob.need → ⊥
    by_place (suc t) e = cc
    by_place zero e =
        let e' : Some wall ≡ Some ob.need = e in let same : wall ≡ ob.need = cc in
        let none : has_role [] ob.role ≡ true = subst (λ (n : Need). IsIn n.lacks ob.role) (sym same) ob.wanted in cc

-- the list of barriers

pub of_barriers : (count : ℕ) (set : List ℕ) (needs : List Need) → IsOneOf (barriers count set) needs → (barrier count set ≡ needs)
    × (barriers count set ≡ barrier count set ∷ [])
of_barriers count set needs is = by_test (is_empty (outside count set)) refl is.0 is.1
  where
    by_test : (t : Bool) → is_empty (outside count set) ≡ t → (k : ℕ) → slice_get (cond t [] (barrier count set ∷ [])) k ≡ Some needs
        → (barrier count set ≡ needs) × (cond t [] (barrier count set ∷ []) ≡ barrier count set ∷ [])
    by_test true e k h = cc
    by_test false e zero h = let e' : Some (barrier count set) ≡ Some needs = h in (cc, refl)
    by_test false e (suc k) h = cc

pub barriers_closed : (rules : Rules) → AreSeniors rules.order → AreEdges (length rules.order.names) rules.order.edges → IsPolicy rules
    → (profiles : List Profile) (set : List ℕ) → HasGains rules profiles set → (needs : List Need)
    → IsOneOf (barriers (length rules.order.names) set) needs
    → (ob : Obligation) → IsOneOf (obligations rules needs) ob → (before : List Need) → pre_image rules needs ob ≡ Some before
    → IsCovered (barriers (length rules.order.names) set) before
barriers_closed rules same ends policy profiles set gains needs is =
    let one = of_barriers count set needs is in
    subst (λ n. (ob : Obligation) → IsOneOf (obligations rules n) ob → (before : List Need) → pre_image rules n ob ≡ Some before
    → IsCovered (barriers count set) before) one.0
    (λ ob at before e. rw one.1 (inl (by_parts before (in_parts rules same (barrier count set) ob at before e))))
  where
    count : ℕ
    count = length rules.order.names

    by_parts : {ob : Obligation} (before : List Need) → IsAssigning rules (barrier count set) ob before
        ⊎ IsRevoking rules (barrier count set) ob before → Covers (barrier count set) before
    by_parts before (inl p) =
        subst (Covers (barrier count set)) p.image (assign_covered rules profiles set gains (roles_below rules same ends policy) p.parts)
    by_parts before (inr p) = subst (Covers (barrier count set)) p.image (weak_covered rules set p.parts)

pub barriers_unmet : (rules : Rules) (profiles : List Profile) (set : List ℕ) → HasGains rules profiles set → (needs : List Need)
    → IsOneOf (barriers (length rules.order.names) set) needs → IsUnmet profiles needs
barriers_unmet rules profiles set gains needs is users drawn met =
    barrier_unmet rules profiles set gains users drawn (subst (Meets users) (sym (of_barriers (length rules.order.names) set needs is).0) met)
