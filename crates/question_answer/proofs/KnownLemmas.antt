-- Conjuncts and goal requirements have roles below the count alone, and pre-images and normal forms keep to them.
use Rattle.std.proofs.Common.{ℕ, ◌≡◌, ◌<◌, ◌∙◌, ◌||◌, List, [], ◌∷◌, ◌++◌, length, map, Some, zero, suc, sym, subst, inl, inr}
use Rattle.std.proofs.Common.{eqb, Bool, true, false, not, cond}
use Rattle.std.specs.Prelude.{◌⊎◌, filter, slice_set}
use Rattle.list_words.specs.Lists.{Each, IsOneOf, Some_of}
use Rattle.list_words.proofs.EachLemmas.{each_append, each_at, each_by, each_some, each_weaker, some_one}
use Rattle.list_words.proofs.GetLemmas.{some_cond}
use Rattle.list_words.proofs.TestLemmas.{and_both}
use Rattle.role_order.specs.Graph.{AreEdges, Graph}
use Rattle.role_order.specs.Reach.{seniors_of}
use Rattle.role_order.specs.Roles.{AreBelow, IsIn, IsOut, has_role, join_roles, less_roles, without_role}
use Rattle.role_order.proofs.SetLemmas.{has_role-filter}
use Rattle.arbac_policy.specs.Rules.{IsKnownAssign, IsKnownPair, IsKnownRevoke, IsPolicy, Rules}
use Rattle.arbac_policy.specs.Truth.{IsKnown, Term, term_of, any, has, lacks, both, either}
use Rattle.arbac_laws.specs.Conjuncts.{conjuncts, join_all, join_needs, join_with}
use Rattle.arbac_laws.specs.Goals.{before_each, goal_requirements}
use Rattle.arbac_laws.specs.Needs.{IsPossible, IsPossibleNeed, Need}
use Rattle.arbac_laws.specs.NormalForms.{is_impossible, normal_form, normal_need, sort_by}
use Rattle.arbac_laws.specs.Obligations.{Obligation, obligations, pre_image, role_of}
use Rattle.arbac_laws.specs.Orders.{need_before}
use Rattle.arbac_laws.specs.PreImages.{Pick, add_hit, barred, before_assign, before_weak, change_at, has_alone, is_barred, with_admin, itself, other, fresh}
use Rattle.arbac_laws.proofs.BarrierLemmas.{seniors_below}
use Rattle.arbac_laws.proofs.ConjunctLemmas.{AreSeniors}
use Rattle.arbac_laws.proofs.NormalLemmas.{in_bare, normal_hit, not_possible}
use Rattle.arbac_laws.proofs.ObligationLemmas.{IsAssigning, IsRevoking, in_parts}
use Rattle.arbac_laws.proofs.RoleLemmas.{in_less, join_cases, less_in}
use Rattle.arbac_laws.proofs.SetsLemmas.{each_passed}
use Rattle.arbac_laws.proofs.SortLemmas.{sort_by_in}
use Rattle.cert_text.specs.Certificates.{IsWritten}

-- each role of the user requirement is below the count
pub record AreKnown (count : ℕ) (need : Need) : Type 0 where
  pub hits : Each (AreBelow count) need.hits
  pub lacks : AreBelow count need.lacks

-- sets

-- no role
pub none_below : (count : ℕ) → AreBelow count []
none_below count role h = cc

-- the roles of two sets
pub join_below : (count : ℕ) (xs ys : List ℕ) → AreBelow count xs → AreBelow count ys → AreBelow count (join_roles xs ys)
join_below count xs ys a b role h = by_side (join_cases xs ys role h)
  where
    by_side : IsIn xs role ⊎ IsIn ys role → role < count
    by_side (inl k) = a role k
    by_side (inr k) = b role k

-- some of the roles of a set
pub filter_below : (count : ℕ) (test : ℕ → Bool) (xs : List ℕ) → AreBelow count xs → AreBelow count (filter test xs)
filter_below count test xs below role h = below role (and_both (has_role xs role) (test role) (sym (has_role-filter test xs role) ∙ h)).0

-- a set or no role
pub cond_below : (count : ℕ) (t : Bool) (xs : List ℕ) → AreBelow count xs → AreBelow count (cond t xs [])
cond_below count true xs below = below
cond_below count false xs below = none_below count

-- conjuncts and goal requirements

-- of both
pub join_known : (count : ℕ) (a b : Need) → AreKnown count a → AreKnown count b → AreKnown count (join_needs a b)
join_known count a b m n =
    record { hits = each_append (AreBelow count) a.hits b.hits m.hits n.hits; lacks = join_below count a.lacks b.lacks m.lacks n.lacks }

pub with_known : (count : ℕ) (a : Need) (bs : List Need) → AreKnown count a → Each (AreKnown count) bs → Each (AreKnown count) (join_with a bs)
with_known count a [] h k = tt
with_known count a (b ∷ bs) h k = (join_known count a b h k.0, with_known count a bs h k.1)

pub all_known : (count : ℕ) (xs bs : List Need) → Each (AreKnown count) xs → Each (AreKnown count) bs → Each (AreKnown count) (join_all xs bs)
all_known count [] bs h k = tt
all_known count (a ∷ xs) bs h k =
    each_append (AreKnown count) (join_with a bs) (join_all xs bs) (with_known count a bs h.0 k) (all_known count xs bs h.1 k)

pub conjuncts_known : (order : Graph) → AreSeniors order → AreEdges (length order.names) order.edges → (cond : Term) → IsKnown (length order.names) cond
    → Each (AreKnown (length order.names)) (conjuncts order cond)
conjuncts_known order same ends any h = (record { hits = tt; lacks = none_below (length order.names) }, tt)
conjuncts_known order same ends (has role) h =
    (record { hits = (seniors_below order same ends role h, tt); lacks = none_below (length order.names) }, tt)
conjuncts_known order same ends (lacks role) h = (record { hits = tt; lacks = seniors_below order same ends role h }, tt)
conjuncts_known order same ends (both left right) h =
    all_known (length order.names) (conjuncts order left) (conjuncts order right) (conjuncts_known order same ends left h.0)
    (conjuncts_known order same ends right h.1)
conjuncts_known order same ends (either left right) h =
    each_append (AreKnown (length order.names)) (conjuncts order left) (conjuncts order right) (conjuncts_known order same ends left h.0)
    (conjuncts_known order same ends right h.1)

pub goals_known : (order : Graph) → AreSeniors order → AreEdges (length order.names) order.edges → (goal : List Term)
    → Each (IsKnown (length order.names)) goal
    → Each (Each (AreKnown (length order.names))) (goal_requirements order goal)
goals_known order same ends [] h = (tt, tt)
goals_known order same ends (cond ∷ goal) h =
    each_before (conjuncts order cond) (goal_requirements order goal) (conjuncts_known order same ends cond h.0) (goals_known order same ends goal h.1)
  where
    known : Need → Type 0
    known need = AreKnown (length order.names) need

    each_map : (a : Need) (tails more : List (List Need)) → known a → Each (Each known) tails → Each (Each known) more
        → Each (Each known) (map (λ tail. a ∷ tail) tails ++ more)
    each_map a [] more s h k = k
    each_map a (tail ∷ tails) more s h k = ((s, h.0), each_map a tails more s h.1 k)

    each_before : (xs : List Need) (tails : List (List Need)) → Each known xs → Each (Each known) tails → Each (Each known) (before_each xs tails)
    each_before [] tails s h = tt
    each_before (a ∷ xs) tails s h = each_map a tails (before_each xs tails) s.0 h (each_before xs tails s.1 h)

-- pre-images

-- what pairs of roles bar
pub barred_below : (order : Graph) → AreSeniors order → AreEdges (length order.names) order.edges → (role : ℕ) (pairs : List (ℕ × ℕ))
    → Each (IsKnownPair (length order.names)) pairs → AreBelow (length order.names) (barred order role pairs)
barred_below order same ends role [] h = none_below (length order.names)
barred_below order same ends role (pair ∷ pairs) h =
    join_below (length order.names) (cond (has_role (seniors_of order pair.0) role) (seniors_of order pair.1) [])
    (join_roles (cond (has_role (seniors_of order pair.1) role) (seniors_of order pair.0) []) (barred order role pairs))
    (cond_below (length order.names) (has_role (seniors_of order pair.0) role) (seniors_of order pair.1) (seniors_below order same ends pair.1 h.0.1))
    (join_below (length order.names) (cond (has_role (seniors_of order pair.1) role) (seniors_of order pair.0) []) (barred order role pairs)
    (cond_below (length order.names) (has_role (seniors_of order pair.1) role) (seniors_of order pair.0) (seniors_below order same ends pair.0 h.0.0))
    (barred_below order same ends role pairs h.1))

-- what the target must meet before it is given a role
pub assign_known : (rules : Rules) → AreSeniors rules.order → AreEdges (length rules.order.names) rules.order.edges → IsPolicy rules
    → (conjunct need before : Need) (role : ℕ) → AreKnown (length rules.order.names) conjunct → AreKnown (length rules.order.names) need
    → before_assign rules conjunct role need ≡ Some before → AreKnown (length rules.order.names) before
assign_known rules same ends policy conjunct need before role c n e =
    subst (AreKnown count) (some_cond (has_role need.lacks role || is_barred rules.order role rules.exclusive) made before e).1 (record {
      hits = each_append (AreBelow count) (filter (λ hit. not (has_role hit role)) need.hits) conjunct.hits
          (each_passed (AreBelow count) (λ hit. not (has_role hit role)) need.hits n.hits) c.hits;
      lacks = join_below count need.lacks (join_roles conjunct.lacks (barred rules.order role rules.exclusive)) n.lacks
          (join_below count conjunct.lacks (barred rules.order role rules.exclusive) c.lacks
          (barred_below rules.order same ends role rules.exclusive policy.exclusive));
    })
  where
    count : ℕ
    count = length rules.order.names

    made : Need
    made = record {
      hits = filter (λ hit. not (has_role hit role)) need.hits ++ conjunct.hits;
      lacks = join_roles need.lacks (join_roles conjunct.lacks (barred rules.order role rules.exclusive));
    }

-- and before it loses one
pub weak_known : (count : ℕ) (need before : Need) (role : ℕ) → AreKnown count need → before_weak role need ≡ Some before → AreKnown count before
weak_known count need before role n e =
    subst (AreKnown count) (some_cond (has_alone role need.hits) made before e).1
    (record { hits = without need.hits n.hits; lacks = filter_below count (λ x. not (eqb x role)) need.lacks n.lacks })
  where
    made : Need
    made = record { hits = map (λ hit. without_role hit role) need.hits; lacks = without_role need.lacks role }

    without : (hits : List (List ℕ)) → Each (AreBelow count) hits → Each (AreBelow count) (map (λ hit. without_role hit role) hits)
    without [] h = tt
    without (hit ∷ hits) h = (filter_below count (λ x. not (eqb x role)) hit h.0, without hits h.1)

-- one user requirement exchanged
pub exchange_known : (count : ℕ) (needs : List Need) (i : ℕ) (before : Need) → Each (AreKnown count) needs → AreKnown count before
    → Each (AreKnown count) (slice_set needs i before)
exchange_known count [] i before h b = tt
exchange_known count (x ∷ xs) zero before h b = (b, h.1)
exchange_known count (x ∷ xs) (suc i) before h b = (h.0, exchange_known count xs i before h.1 b)

-- one hit more
pub change_known : (count : ℕ) (needs : List Need) (i : ℕ) (hit : List ℕ) → Each (AreKnown count) needs → AreBelow count hit
    → Each (AreKnown count) (change_at i (add_hit hit) needs)
change_known count [] i hit h b = tt
change_known count (x ∷ xs) zero hit h b = (record { hits = (b, h.0.hits); lacks = h.0.lacks }, h.1)
change_known count (x ∷ xs) (suc i) hit h b = (h.0, change_known count xs i hit h.1 b)

-- with an administrator
pub admin_known : (count : ℕ) (pick : Pick) (target : ℕ) (hit : List ℕ) (needs : List Need) → Each (AreKnown count) needs → AreBelow count hit
    → Each (AreKnown count) (with_admin pick target hit needs)
admin_known count itself target hit needs h b = change_known count needs target hit h b
admin_known count (other place) target hit needs h b = change_known count needs place hit h b
admin_known count fresh target hit needs h b =
    each_append (AreKnown count) needs (record { hits = hit ∷ []; lacks = [] } ∷ []) h (record { hits = (b, tt); lacks = none_below count }, tt)

-- the pre-image of an obligation
pub kept_known : (rules : Rules) → AreSeniors rules.order → AreEdges (length rules.order.names) rules.order.edges → IsPolicy rules
    → (needs : List Need) → Each (AreKnown (length rules.order.names)) needs → (ob : Obligation) → IsOneOf (obligations rules needs) ob
    → (before : List Need) → pre_image rules needs ob ≡ Some before → Each (AreKnown (length rules.order.names)) before
kept_known rules same ends policy needs known ob is before e = by_parts (in_parts rules same needs ob is before e)
  where
    count : ℕ
    count = length rules.order.names

    by_parts : IsAssigning rules needs ob before ⊎ IsRevoking rules needs ob before → Each (AreKnown count) before
    by_parts (inl p) =
        let d = p.parts in
        let rule = each_at (IsKnownAssign count) rules.assign d.is_rule.0 d.rule policy.assign d.is_rule.1 in
        let conjunct = each_at (AreKnown count) (conjuncts rules.order (term_of d.rule.cond)) d.is_conjunct.0 d.conjunct
        (conjuncts_known rules.order same ends (term_of d.rule.cond) rule.cond) d.is_conjunct.1 in
        let target = assign_known rules same ends policy d.conjunct d.need d.before d.role conjunct
        (each_at (AreKnown count) needs d.target d.need known d.need_is) d.before_is in
        subst (Each (AreKnown count)) p.image (admin_known count d.pick d.target (seniors_of rules.order d.rule.admin) (slice_set needs d.target d.before)
        (exchange_known count needs d.target d.before known target) (seniors_below rules.order same ends d.rule.admin rule.admin))
    by_parts (inr p) =
        let d = p.parts in
        let rule = each_at (IsKnownRevoke count) rules.revoke d.is_rule.0 d.rule policy.revoke d.is_rule.1 in
        let target = weak_known count d.need d.before d.role (each_at (AreKnown count) needs d.target d.need known d.need_is) d.before_is in
        subst (Each (AreKnown count)) p.image (admin_known count d.pick d.target (seniors_of rules.order d.rule.admin) (slice_set needs d.target d.before)
        (exchange_known count needs d.target d.before known target) (seniors_below rules.order same ends d.rule.admin rule.admin))

-- the role of an obligation that has a pre-image stands in a range
pub role_known : (rules : Rules) → AreSeniors rules.order → (needs : List Need) (ob : Obligation) → IsOneOf (obligations rules needs) ob
    → (before : List Need) → pre_image rules needs ob ≡ Some before → role_of ob < length rules.order.names
role_known rules same needs ob is before e = by_parts (in_parts rules same needs ob is before e)
  where
    by_parts : IsAssigning rules needs ob before ⊎ IsRevoking rules needs ob before → role_of ob < length rules.order.names
    by_parts (inl p) = subst (λ o. role_of o < length rules.order.names) p.named p.parts.in_range.is_role
    by_parts (inr p) = subst (λ o. role_of o < length rules.order.names) p.named p.parts.in_range.is_role

-- normal forms

-- hits of the normal form are hits less lacks, and a hit without a role would be impossible
pub need_written : (count : ℕ) (need : Need) → AreKnown count need → IsPossibleNeed need → IsWritten count (normal_need need)
need_written count need known possible = record {
  hits = each_by (AreBelow count) (normal_need need).hits (λ hit i role held.
      let one = from hit i in each_some (AreBelow count) need.hits one.0 known.hits one.1 role
      (less_in one.0 need.lacks role (subst (λ set. IsIn set role) (sym one.2) held)));
  lacks = known.lacks;
  filled = each_by (λ hit. (role : ℕ) × IsIn hit role) (normal_need need).hits (λ hit i.
      let one = from hit i in
      let free = each_some (λ hit. (role : ℕ) × IsIn hit role × IsOut need.lacks role) need.hits one.0 possible one.1 in
      (free.0, subst (λ set. IsIn set free.0) one.2 (in_less one.0 need.lacks free.0 free.1 free.2)));
}
  where
    from : (hit : List ℕ) → Some_of (λ (k : List ℕ). k ≡ hit) (normal_need need).hits
        → (bare : List ℕ) × Some_of (λ (k : List ℕ). k ≡ bare) need.hits × (less_roles bare need.lacks ≡ hit)
    from hit i = some_one (λ (k : List ℕ). less_roles k need.lacks ≡ hit) need.hits (in_bare need hit (normal_hit need hit i).0)

-- of each user
pub needs_written : (count : ℕ) (needs : List Need) → Each (AreKnown count) needs → IsPossible needs → Each (IsWritten count) (map normal_need needs)
needs_written count [] known possible = tt
needs_written count (need ∷ needs) known possible =
    (need_written count need known.0 possible.0, needs_written count needs known.1 possible.1)

-- a normal form can be written
pub form_written : (count : ℕ) (needs form : List Need) → Each (AreKnown count) needs → normal_form needs ≡ Some form → Each (IsWritten count) form
form_written count needs form known e =
    let one = some_cond (is_impossible needs) (sort_by need_before (map normal_need needs)) form e in
    subst (Each (IsWritten count)) one.1
    (sort_by_in need_before (IsWritten count) (map normal_need needs) (needs_written count needs known (not_possible needs one.0)))

-- what can be written has known roles
pub written_known : (count : ℕ) (needs : List Need) → Each (IsWritten count) needs → Each (AreKnown count) needs
written_known count needs written =
    each_weaker (IsWritten count) (AreKnown count) (λ need one. record { hits = one.hits; lacks = one.lacks }) needs written
