-- What is derived from a goal stays within the goal's slice.
use Rattle.std.proofs.Common.{ℕ, ◌≡◌, List, [], ◌∷◌, ◌++◌, map, Some, zero, suc, not, ◌||◌, cond, subst, inl, inr}
use Rattle.std.specs.Prelude.{slice_set, ◌⊎◌, filter}
use Rattle.list_words.specs.Lists.{Each, IsOneOf, Some_of}
use Rattle.list_words.proofs.EachLemmas.{each_append, each_at, each_by, each_some, some_each}
use Rattle.list_words.proofs.GetLemmas.{some_cond}
use Rattle.role_order.specs.Graph.{Graph}
use Rattle.role_order.specs.Orders.{set_before}
use Rattle.role_order.specs.Reach.{seniors_of}
use Rattle.role_order.specs.Roles.{IsIn, IsWithin, has_role, join_roles, less_roles, without_role}
use Rattle.role_order.proofs.OrderLemmas.{set_order}
use Rattle.arbac_policy.specs.Rules.{Rules}
use Rattle.arbac_policy.specs.Truth.{Term, term_of}
use Rattle.arbac_laws.specs.Conjuncts.{conjuncts}
use Rattle.arbac_laws.specs.Goals.{before_each, goal_requirements}
use Rattle.arbac_laws.specs.Listings.{IsObligation}
use Rattle.arbac_laws.specs.Needs.{Need}
use Rattle.arbac_laws.specs.NormalForms.{bare_hits, is_impossible, least_hits, normal_form, normal_need, sort_by, sort_once}
use Rattle.arbac_laws.specs.Obligations.{Obligation, assigns, obligations, pre_image, revokes}
use Rattle.arbac_laws.specs.Orders.{need_before}
use Rattle.arbac_laws.specs.PreImages.{Pick, add_hit, barred, before_assign, before_weak, change_at, fresh, has_alone, is_barred, itself, other, with_admin}
use Rattle.arbac_laws.specs.Relevance.{HasAssign, HasNeed, IsClosedSlice, IsDerived, IsPart, IsRelevance, IsRelevant, Slice, before_act, in_form, of_goal}
use Rattle.arbac_laws.proofs.ConjunctLemmas.{AreSeniors}
use Rattle.arbac_laws.proofs.ObligationLemmas.{IsAssigning, IsRevoking, in_parts, listed_is}
use Rattle.arbac_laws.proofs.RoleLemmas.{join_cases, less_in, without_in}
use Rattle.arbac_laws.proofs.SetsLemmas.{each_passed}
use Rattle.arbac_laws.proofs.SortLemmas.{sort_by_in, sort_in}

within_join : (xs ys zs : List ℕ) → IsWithin xs zs → IsWithin ys zs → IsWithin (join_roles xs ys) zs
within_join xs ys zs a b role h = by_side (join_cases xs ys role h)
  where
    by_side : IsIn xs role ⊎ IsIn ys role → IsIn zs role
    by_side (inl k) = a role k
    by_side (inr k) = b role k

-- goal requirements

each_combined : (P : Need → Type 0) (xs : List Need) (tails : List (List Need)) → Each P xs → Each (Each P) tails → Each (Each P) (before_each xs tails)
each_combined P [] tails h k = tt
each_combined P (a ∷ xs) tails h k =
    each_append (Each P) (map (λ tail. a ∷ tail) tails) (before_each xs tails) (in_front tails k) (each_combined P xs tails h.1 k)
  where
    in_front : (tails : List (List Need)) → Each (Each P) tails → Each (Each P) (map (λ tail. a ∷ tail) tails)
    in_front [] k = tt
    in_front (tail ∷ tails) k = ((h.0, k.0), in_front tails k.1)

goal_needs : (order : Graph) (P : Need → Type 0) (goal : List Term) → Each (λ cond. Each P (conjuncts order cond)) goal
    → Each (Each P) (goal_requirements order goal)
goal_needs order P [] h = (tt, tt)
goal_needs order P (cond ∷ goal) h = each_combined P (conjuncts order cond) (goal_requirements order goal) h.0 (goal_needs order P goal h.1)

-- pre-images

assign_has : (rules : Rules) (slice : Slice) (conjunct need before : Need) (role : ℕ) → HasNeed slice conjunct → HasNeed slice need
    → IsWithin (barred rules.order role rules.exclusive) slice.barred → before_assign rules conjunct role need ≡ Some before → HasNeed slice before
assign_has rules slice conjunct need before role c n pairs e =
    subst (HasNeed slice) (some_cond (has_role need.lacks role || is_barred rules.order role rules.exclusive) made before e).1 (record {
      hits = each_append (λ hit. IsWithin hit slice.wanted) (filter (λ hit. not (has_role hit role)) need.hits) conjunct.hits
          (each_passed (λ hit. IsWithin hit slice.wanted) (λ hit. not (has_role hit role)) need.hits n.hits) c.hits;
      lacks = within_join need.lacks (join_roles conjunct.lacks (barred rules.order role rules.exclusive)) slice.barred n.lacks
          (within_join conjunct.lacks (barred rules.order role rules.exclusive) slice.barred c.lacks pairs);
    })
  where
    made : Need
    made = record {
      hits = filter (λ hit. not (has_role hit role)) need.hits ++ conjunct.hits;
      lacks = join_roles need.lacks (join_roles conjunct.lacks (barred rules.order role rules.exclusive));
    }

weak_has : (slice : Slice) (need before : Need) (role : ℕ) → HasNeed slice need → before_weak role need ≡ Some before → HasNeed slice before
weak_has slice need before role n e = subst (HasNeed slice) (some_cond (has_alone role need.hits) made before e).1
    (record { hits = without need.hits n.hits; lacks = λ r h. n.lacks r (without_in need.lacks role r h).0 })
  where
    made : Need
    made = record { hits = map (λ hit. without_role hit role) need.hits; lacks = without_role need.lacks role }

    without : (hits : List (List ℕ)) → Each (λ hit. IsWithin hit slice.wanted) hits
        → Each (λ hit. IsWithin hit slice.wanted) (map (λ hit. without_role hit role) hits)
    without [] h = tt
    without (hit ∷ hits) h = ((λ r k. h.0 r (without_in hit role r k).0), without hits h.1)

exchange_has : (P : Need → Type 0) (needs : List Need) (i : ℕ) (before : Need) → Each P needs → P before → Each P (slice_set needs i before)
exchange_has P [] i before h b = tt
exchange_has P (x ∷ xs) zero before h b = (b, h.1)
exchange_has P (x ∷ xs) (suc i) before h b = (h.0, exchange_has P xs i before h.1 b)

change_has : (slice : Slice) (needs : List Need) (i : ℕ) (hit : List ℕ) → Each (HasNeed slice) needs → IsWithin hit slice.wanted
    → Each (HasNeed slice) (change_at i (add_hit hit) needs)
change_has slice [] i hit h w = tt
change_has slice (x ∷ xs) zero hit h w = (record { hits = (w, h.0.hits); lacks = h.0.lacks }, h.1)
change_has slice (x ∷ xs) (suc i) hit h w = (h.0, change_has slice xs i hit h.1 w)

admin_has : (slice : Slice) (pick : Pick) (target : ℕ) (hit : List ℕ) (needs : List Need) → Each (HasNeed slice) needs → IsWithin hit slice.wanted
    → Each (HasNeed slice) (with_admin pick target hit needs)
admin_has slice itself target hit needs h w = change_has slice needs target hit h w
admin_has slice (other place) target hit needs h w = change_has slice needs place hit h w
admin_has slice fresh target hit needs h w =
    each_append (HasNeed slice) needs (record { hits = hit ∷ []; lacks = [] } ∷ []) h (record { hits = (w, tt); lacks = λ r k. cc }, tt)

-- a role of a wanted hit is wanted
role_wanted : (slice : Slice) (need : Need) (role : ℕ) → HasNeed slice need → Some_of (λ hit. IsIn hit role) need.hits → IsIn slice.wanted role
role_wanted slice need role n w =
    some_each (λ hit. IsIn hit role) (λ hit. IsWithin hit slice.wanted) (IsIn slice.wanted role) (λ hit h within. within role h) need.hits w n.hits

before_has : (rules : Rules) → AreSeniors rules.order → (goal : List Term) (slice : Slice) → IsClosedSlice rules goal slice → (needs : List Need)
    → Each (HasNeed slice) needs
    → (ob : Obligation) → IsOneOf (obligations rules needs) ob → (before : List Need) → pre_image rules needs ob ≡ Some before
    → Each (HasNeed slice) before
before_has rules same goal slice closed needs has ob is before e = by_parts (in_parts rules same needs ob is before e)
  where
    by_parts : IsAssigning rules needs ob before ⊎ IsRevoking rules needs ob before → Each (HasNeed slice) before
    by_parts (inl p) =
        let d = p.parts in
        let need : HasNeed slice d.need = each_at (HasNeed slice) needs d.target d.need has d.need_is in
        let rule : HasAssign rules slice d.is_rule.0 d.rule d.role =
        closed.assigns d.is_rule.0 d.role d.rule d.is_rule.1 d.in_range (role_wanted slice d.need d.role need d.wanted) in
        let conjunct : HasNeed slice d.conjunct =
        each_at (HasNeed slice) (conjuncts rules.order (term_of d.rule.cond)) d.is_conjunct.0 d.conjunct rule.conjuncts d.is_conjunct.1 in
        subst (Each (HasNeed slice)) p.image (admin_has slice d.pick d.target (seniors_of rules.order d.rule.admin) (slice_set needs d.target d.before)
        (exchange_has (HasNeed slice) needs d.target d.before has
        (assign_has rules slice d.conjunct d.need d.before d.role conjunct need rule.pairs d.before_is))
        rule.admin)
    by_parts (inr p) =
        let d = p.parts in
        let need : HasNeed slice d.need = each_at (HasNeed slice) needs d.target d.need has d.need_is in
        let rule = closed.revokes d.is_rule.0 d.role d.rule d.is_rule.1 d.in_range (need.lacks d.role d.wanted) in
        subst (Each (HasNeed slice)) p.image (admin_has slice d.pick d.target (seniors_of rules.order d.rule.admin) (slice_set needs d.target d.before)
        (exchange_has (HasNeed slice) needs d.target d.before has (weak_has slice d.need d.before d.role need d.before_is)) rule.admin)

-- normal forms

normal_has : (slice : Slice) (need : Need) → HasNeed slice need → HasNeed slice (normal_need need)
normal_has slice need n = record {
  hits = each_by (λ hit. IsWithin hit slice.wanted) (sort_once set_before (least_hits (bare_hits need))) (λ hit is.
      each_some (λ hit. IsWithin hit slice.wanted) (least_hits (bare_hits need)) hit kept
      (sort_in set_before set_order (λ one. one ≡ hit) (least_hits (bare_hits need)) is));
  lacks = n.lacks;
}
  where
    bare : (hits : List (List ℕ)) → Each (λ hit. IsWithin hit slice.wanted) hits
        → Each (λ hit. IsWithin hit slice.wanted) (map (λ hit. less_roles hit need.lacks) hits)
    bare [] h = tt
    bare (hit ∷ hits) h = ((λ r k. h.0 r (less_in hit need.lacks r k)), bare hits h.1)

    kept : Each (λ hit. IsWithin hit slice.wanted) (least_hits (bare_hits need))
    kept = each_passed (λ hit. IsWithin hit slice.wanted) _ (bare_hits need) (bare need.hits n.hits)

form_has : (slice : Slice) (needs form : List Need) → Each (HasNeed slice) needs → normal_form needs ≡ Some form → Each (HasNeed slice) form
form_has slice needs form h e =
    subst (Each (HasNeed slice)) (some_cond (is_impossible needs) (sort_by need_before (map normal_need needs)) form e).1
    (sort_by_in need_before (HasNeed slice) (map normal_need needs) (each_normal needs h))
  where
    each_normal : (needs : List Need) → Each (HasNeed slice) needs → Each (HasNeed slice) (map normal_need needs)
    each_normal [] h = tt
    each_normal (need ∷ needs) h = (normal_has slice need h.0, each_normal needs h.1)

-- what is derived wants and bars roles of the slice alone
pub derived_has : (rules : Rules) → AreSeniors rules.order → (goal : List Term) (slice : Slice) → IsClosedSlice rules goal slice → (needs : List Need)
    → IsDerived rules goal needs → Each (HasNeed slice) needs
derived_has rules same goal slice closed needs (of_goal is) =
    each_at (Each (HasNeed slice)) (goal_requirements rules.order goal) is.0 needs (goal_needs rules.order (HasNeed slice) goal closed.goals) is.1
derived_has rules same goal slice closed needs (before_act {needs = earlier} {ob = ob} derived is e) =
    before_has rules same goal slice closed earlier (derived_has rules same goal slice closed earlier derived) ob is needs e
derived_has rules same goal slice closed needs (in_form {needs = earlier} derived e) =
    form_has slice earlier needs (derived_has rules same goal slice closed earlier derived) e

-- so its obligations name rules of the slice
pub derived_relevant : (rules : Rules) → AreSeniors rules.order → (goal : List Term) (slice : Slice) → IsClosedSlice rules goal slice
    → (needs : List Need)
    → IsDerived rules goal needs → (ob : Obligation) → IsOneOf (obligations rules needs) ob → IsRelevant slice ob
derived_relevant rules same goal slice closed needs derived ob is = by_kind ob (listed_is rules same needs ob is)
  where
    has : Each (HasNeed slice) needs
    has = derived_has rules same goal slice closed needs derived

    by_kind : (ob : Obligation) → IsObligation rules needs ob → IsRelevant slice ob
    by_kind (assigns rule conjunct role target pick) d =
        let need : HasNeed slice d.need = each_at (HasNeed slice) needs target d.need has d.need_is in
        (closed.assigns rule role d.by d.by_is d.in_range (role_wanted slice d.need role need d.wanted)).listed
    by_kind (revokes rule role target pick) d =
        let need : HasNeed slice d.need = each_at (HasNeed slice) needs target d.need has d.need_is in
        (closed.revokes rule role d.by d.by_is d.in_range (need.lacks role d.barred)).listed

pub one_relevance : (rules : Rules) (goal : List Term) (a b : Slice) → IsRelevance rules goal a → IsRelevance rules goal b → IsPart a b × IsPart b a
one_relevance rules goal a b x y = (x.least b y.closed, y.least a x.closed)
