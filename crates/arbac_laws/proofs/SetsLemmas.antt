-- Conjuncts, goal requirements and pre-images have strictly rising hits and lacks.
use Rattle.std.proofs.Common.{ℕ, ◌≡◌, List, [], ◌∷◌, ◌++◌, map, Some, zero, suc, eqb, Bool, true, false, not, ◌||◌, cond, subst, inl, inr}
use Rattle.std.specs.Prelude.{slice_set, ◌⊎◌, filter}
use Rattle.role_order.proofs.ReachLemmas.{rises_seniors}
use Rattle.role_order.proofs.SetLemmas.{rises-filter, rises-join_roles}
use Rattle.role_order.specs.Graph.{Graph}
use Rattle.list_words.specs.Lists.{Each, IsOneOf}
use Rattle.role_order.specs.Reach.{seniors_of}
use Rattle.role_order.specs.Roles.{Rises, has_role, join_roles, without_role}
use Rattle.arbac_policy.specs.Rules.{Rules}
use Rattle.arbac_policy.specs.Truth.{Term, term_of, any, has, lacks, both, either}
use Rattle.arbac_laws.specs.Conjuncts.{conjuncts, join_all, join_needs, join_with}
use Rattle.arbac_laws.specs.Goals.{before_each, goal_requirements}
use Rattle.arbac_laws.specs.Needs.{Need}
use Rattle.arbac_laws.specs.NormalForms.{AreSets}
use Rattle.arbac_laws.specs.Obligations.{Obligation, obligations, pre_image}
use Rattle.arbac_laws.specs.PreImages.{Pick, add_hit, barred, before_assign, before_weak, change_at, has_alone, is_barred, with_admin, itself, other, fresh}
use Rattle.arbac_laws.proofs.ConjunctLemmas.{AreSeniors}
use Rattle.list_words.proofs.EachLemmas.{each_append, each_at}
use Rattle.arbac_laws.proofs.ObligationLemmas.{IsAssigning, IsRevoking, in_parts}
use Rattle.list_words.proofs.GetLemmas.{some_cond}

pub join_sets : (a b : Need) → AreSets a → AreSets b → AreSets (join_needs a b)
join_sets a b m n = record { hits = each_append Rises a.hits b.hits m.hits n.hits; lacks = rises-join_roles a.lacks b.lacks n.lacks }

pub with_sets : (a : Need) (bs : List Need) → AreSets a → Each AreSets bs → Each AreSets (join_with a bs)
with_sets a [] h k = tt
with_sets a (b ∷ bs) h k = (join_sets a b h k.0, with_sets a bs h k.1)

pub all_sets : (xs bs : List Need) → Each AreSets xs → Each AreSets bs → Each AreSets (join_all xs bs)
all_sets [] bs h k = tt
all_sets (a ∷ xs) bs h k = each_append AreSets (join_with a bs) (join_all xs bs) (with_sets a bs h.0 k) (all_sets xs bs h.1 k)

pub conjunct_sets : (order : Graph) (cond : Term) → Each AreSets (conjuncts order cond)
conjunct_sets order any = (record { hits = tt; lacks = tt }, tt)
conjunct_sets order (has role) = (record { hits = (rises_seniors order role, tt); lacks = tt }, tt)
conjunct_sets order (lacks role) = (record { hits = tt; lacks = rises_seniors order role }, tt)
conjunct_sets order (both left right) = all_sets (conjuncts order left) (conjuncts order right) (conjunct_sets order left) (conjunct_sets order right)
conjunct_sets order (either left right) =
    each_append AreSets (conjuncts order left) (conjuncts order right) (conjunct_sets order left) (conjunct_sets order right)

pub goal_sets : (order : Graph) (goal : List Term) → Each (Each AreSets) (goal_requirements order goal)
goal_sets order [] = (tt, tt)
goal_sets order (cond ∷ goal) = each_before (conjuncts order cond) (goal_requirements order goal) (conjunct_sets order cond) (goal_sets order goal)
  where
    each_map : (a : Need) (tails more : List (List Need)) → AreSets a → Each (Each AreSets) tails → Each (Each AreSets) more
        → Each (Each AreSets) (map (λ tail. a ∷ tail) tails ++ more)
    each_map a [] more s h k = k
    each_map a (tail ∷ tails) more s h k = ((s, h.0), each_map a tails more s h.1 k)

    each_before : (xs : List Need) (tails : List (List Need)) → Each AreSets xs → Each (Each AreSets) tails → Each (Each AreSets) (before_each xs tails)
    each_before [] tails s h = tt
    each_before (a ∷ xs) tails s h = each_map a tails (before_each xs tails) s.0 h (each_before xs tails s.1 h)

pub barred_rises : (order : Graph) (role : ℕ) (pairs : List (ℕ × ℕ)) → Rises (barred order role pairs)
barred_rises order role [] = tt
barred_rises order role (pair ∷ pairs) =
    rises-join_roles (cond (has_role (seniors_of order pair.0) role) (seniors_of order pair.1) [])
    (join_roles (cond (has_role (seniors_of order pair.1) role) (seniors_of order pair.0) []) (barred order role pairs))
    (rises-join_roles (cond (has_role (seniors_of order pair.1) role) (seniors_of order pair.0) []) (barred order role pairs) (barred_rises order role pairs))

pub each_passed : {A : Type 0} (P : A → Type 0) (test : A → Bool) (xs : List A) → Each P xs → Each P (filter test xs)
each_passed P test [] h = tt
each_passed P test (x ∷ xs) h = by_test (test x) (each_passed P test xs h.1)
  where
    by_test : (t : Bool) → Each P (filter test xs) → Each P (cond t (x ∷ filter test xs) (filter test xs))
    by_test true rest = (h.0, rest)
    by_test false rest = rest

pub assign_sets : (rules : Rules) (conjunct need before : Need) (role : ℕ) → AreSets conjunct → AreSets need
    → before_assign rules conjunct role need ≡ Some before → AreSets before
assign_sets rules conjunct need before role c n e =
    subst AreSets (some_cond (has_role need.lacks role || is_barred rules.order role rules.exclusive) made before e).1 (record {
      hits = each_append Rises (filter (λ hit. not (has_role hit role)) need.hits) conjunct.hits
          (each_passed Rises (λ hit. not (has_role hit role)) need.hits n.hits) c.hits;
      lacks = rises-join_roles need.lacks (join_roles conjunct.lacks (barred rules.order role rules.exclusive))
          (rises-join_roles conjunct.lacks (barred rules.order role rules.exclusive) (barred_rises rules.order role rules.exclusive));
    })
  where
    made : Need
    made = record {
      hits = filter (λ hit. not (has_role hit role)) need.hits ++ conjunct.hits;
      lacks = join_roles need.lacks (join_roles conjunct.lacks (barred rules.order role rules.exclusive));
    }

pub weak_sets : (need before : Need) (role : ℕ) → AreSets need → before_weak role need ≡ Some before → AreSets before
weak_sets need before role n e =
    subst AreSets (some_cond (has_alone role need.hits) made before e).1
    (record { hits = without need.hits n.hits; lacks = rises-filter (λ x. not (eqb x role)) need.lacks n.lacks })
  where
    made : Need
    made = record { hits = map (λ hit. without_role hit role) need.hits; lacks = without_role need.lacks role }

    without : (hits : List (List ℕ)) → Each Rises hits → Each Rises (map (λ hit. without_role hit role) hits)
    without [] h = tt
    without (hit ∷ hits) h = (rises-filter (λ x. not (eqb x role)) hit h.0, without hits h.1)

pub exchange_sets : (needs : List Need) (i : ℕ) (before : Need) → Each AreSets needs → AreSets before → Each AreSets (slice_set needs i before)
exchange_sets [] i before h b = tt
exchange_sets (x ∷ xs) zero before h b = (b, h.1)
exchange_sets (x ∷ xs) (suc i) before h b = (h.0, exchange_sets xs i before h.1 b)

pub change_sets : (needs : List Need) (i : ℕ) (hit : List ℕ) → Each AreSets needs → Rises hit → Each AreSets (change_at i (add_hit hit) needs)
change_sets [] i hit h r = tt
change_sets (x ∷ xs) zero hit h r = (record { hits = (r, h.0.hits); lacks = h.0.lacks }, h.1)
change_sets (x ∷ xs) (suc i) hit h r = (h.0, change_sets xs i hit h.1 r)

pub admin_sets : (pick : Pick) (target : ℕ) (hit : List ℕ) (needs : List Need) → Each AreSets needs → Rises hit
    → Each AreSets (with_admin pick target hit needs)
admin_sets itself target hit needs h r = change_sets needs target hit h r
admin_sets (other place) target hit needs h r = change_sets needs place hit h r
admin_sets fresh target hit needs h r =
    each_append AreSets needs (record { hits = hit ∷ []; lacks = [] } ∷ []) h (record { hits = (r, tt); lacks = tt }, tt)

pub sets_kept : (rules : Rules) → AreSeniors rules.order → (needs : List Need) → Each AreSets needs → (ob : Obligation)
    → IsOneOf (obligations rules needs) ob
    → (before : List Need) → pre_image rules needs ob ≡ Some before → Each AreSets before
sets_kept rules same needs sets ob is before e = by_parts (in_parts rules same needs ob is before e)
  where
    by_parts : IsAssigning rules needs ob before ⊎ IsRevoking rules needs ob before → Each AreSets before
    by_parts (inl p) =
        let d = p.parts in
        let conjunct = each_at AreSets (conjuncts rules.order (term_of d.rule.cond)) d.is_conjunct.0 d.conjunct
        (conjunct_sets rules.order (term_of d.rule.cond)) d.is_conjunct.1 in
        let target = assign_sets rules d.conjunct d.need d.before d.role conjunct (each_at AreSets needs d.target d.need sets d.need_is) d.before_is in
        subst (Each AreSets) p.image (admin_sets d.pick d.target (seniors_of rules.order d.rule.admin) (slice_set needs d.target d.before)
        (exchange_sets needs d.target d.before sets target) (rises_seniors rules.order d.rule.admin))
    by_parts (inr p) =
        let d = p.parts in
        let target = weak_sets d.need d.before d.role (each_at AreSets needs d.target d.need sets d.need_is) d.before_is in
        subst (Each AreSets) p.image (admin_sets d.pick d.target (seniors_of rules.order d.rule.admin) (slice_set needs d.target d.before)
        (exchange_sets needs d.target d.before sets target) (rises_seniors rules.order d.rule.admin))
