-- Sets behind lists of role names, before a step and after it.
use Rattle.std.proofs.Common.{ℕ, ◌≡◌, ◌<◌, ◌+◌, List, [], ◌∷◌, length, Some, arith, zero, suc, sym, ◌∙◌, ap, subst}
use Rattle.std.specs.Prelude.{slice_get, slice_set}
use Rattle.std.specs.Str.{bytes_eq}
use Rattle.std.proofs.lemmas.List.Quantifiers.{position-Some}
use Rattle.list_words.specs.Lists.{Each, AreDifferent}
use Rattle.list_words.proofs.GetLemmas.{get_at, get_set, same_some}
use Rattle.list_words.proofs.EachLemmas.{each_at, each_weaker, different_more}
use Rattle.role_order.specs.Names.{place_of, name_at}
use Rattle.role_order.specs.Roles.{with_role, without_role, Rises}
use Rattle.role_order.specs.Reach.{count_up}
use Rattle.role_order.proofs.SetLemmas.{each-filter, rises-filter, each-with_role, rises-with_role, rises-count_up}
use Rattle.arbac_policy.specs.Truth.{Holder}
use Rattle.arbac_policy.specs.Rules.{Rules}
use Rattle.arbac_policy.specs.Steps.{KindStep, WeakStep, WeakSteps}
use Rattle.arbac_policy.specs.Holders.{admins_of}
use Rattle.arbac_policy.specs.declared.act.ActKind.{ActKind}
use Rattle.arbac_policy.specs.declared.act.ActKind.TheVariants.{Assign, Weak, Strong}
use Rattle.desk_records.specs.declared.requests.Request.{Request}
use Rattle.desk_records.specs.declared.tables.Entity.{Entity}
use Rattle.desk_records.specs.Records.{Kept, of_kind}
use Rattle.desk_machine.specs.Sets.{is_among, set_of, roles_of, sets_of}
use Rattle.desk_machine.specs.Machine.{IsGranted}

-- the set rises, and its roles are below the number
pub record IsSetBelow (count : ℕ) (set : List ℕ) : Type 0 where
  pub rises : Rises set
  pub below : Each (λ role. role < count) set

count_up_below : (at n : ℕ) → Each (λ role. role < at + n) (count_up at n)
count_up_below at zero = tt
count_up_below at (suc n) = (
  omega arith,
  each_weaker (λ role. role < at + 1 + n) (λ role. role < at + suc n) (λ role l. omega arith) (count_up (at + 1) n) (count_up_below (at + 1) n),
)

pub held_set : (names held : List (List ℕ)) → IsSetBelow (length names) (set_of names held)
held_set names held = record {
  rises = rises-filter (λ role. is_among held (name_at names role)) (count_up 0 (length names)) (rises-count_up 0 (length names));
  below = each-filter (λ role. role < length names) (λ role. is_among held (name_at names role)) (count_up 0 (length names))
      (each_weaker (λ role. role < 0 + length names) (λ role. role < length names) (λ role l. omega arith) (count_up 0 (length names))
      (count_up_below 0 (length names)));
}

pub more_set : (count : ℕ) (set : List ℕ) (role : ℕ) → IsSetBelow count set → role < count → IsSetBelow count (with_role set role)
more_set count set role is within = record {
  rises = rises-with_role set role is.rises;
  below = each-with_role (λ r. r < count) set role is.below within;
}

less_set : (count : ℕ) (set : List ℕ) (role : ℕ) → IsSetBelow count set → IsSetBelow count (without_role set role)
less_set count set role is = record { rises = rises-filter _ set is.rises; below = each-filter (λ r. r < count) _ set is.below }

-- a set's roles have different names
pub roles_differ : (names : List (List ℕ)) (set : List ℕ) → AreDifferent names → IsSetBelow (length names) set → AreDifferent (roles_of names set)
roles_differ names [] different is = λ i j x a b. cc
roles_differ names (role ∷ roles) different is =
    different_more (name_at names role) (roles_of names roles) (others roles is.rises.0 is.below.1)
    (roles_differ names roles different (record { rises = is.rises.1; below = is.below.1 }))
  where
    others : (later : List ℕ) → Each (λ y. role < y) later → Each (λ y. y < length names) later
        → Each (λ name. name_at names role ≡ name → ⊥) (roles_of names later)
    others [] above below = tt
    others (other ∷ later) above below = (
      λ same. let one : role ≡ other =
          different role other (name_at names other) (get_at names role [] is.below.0 ∙ ap Some same) (get_at names other [] below.0) in
          absurd (omega (arith, one, above.0)),
      others later above.1 below.1,
    )

-- a role that has a name is below the number of names
pub place_below : (names : List (List ℕ)) (text : List ℕ) (place : ℕ) → place_of names text ≡ Some place → place < length names
place_below names text place e = (position-Some (λ name. bytes_eq name text) names place [] e).0

-- the target's set, where it has one, is a set of such roles
abbrev pub IsSetAt : ℕ → ℕ → List (List ℕ) → Type 0
IsSetAt count target sets = (set : List ℕ) → slice_get sets target ≡ Some set → IsSetBelow count set

set_at : (count target : ℕ) (old new : List (List ℕ)) (before after : List ℕ) → slice_get old target ≡ Some before
    → new ≡ slice_set old target after → IsSetBelow count after → IsSetAt count target new
set_at count target old new before after is gives below set at =
    subst (IsSetBelow count) (same_some after set (sym (get_set old target before after is) ∙ ap (λ sets. slice_get sets target) (sym gives) ∙ at)) below

weak_set : (count : ℕ) (holder : Holder) (rules : Rules) (users old : List (List ℕ)) (admin target role : ℕ) (new : List (List ℕ))
    → WeakStep holder rules users old admin target role new → IsSetAt count target old → IsSetAt count target new
weak_set count holder rules users old admin target role new step at =
    set_at count target old new step.set (without_role step.set role) step.set_is step.gives
    (less_set count step.set role (at step.set step.set_is))

weak_sets : (count : ℕ) (holder : Holder) (rules : Rules) (users old : List (List ℕ)) (admin target : ℕ) (roles : List ℕ) (new : List (List ℕ))
    → WeakSteps holder rules users old admin target roles new → IsSetAt count target old → IsSetAt count target new
weak_sets count holder rules users old admin target [] new steps at = subst (IsSetAt count target) (sym steps) at
weak_sets count holder rules users old admin target (role ∷ roles) new (mid, step, rest) at =
    weak_sets count holder rules users mid admin target roles new rest
    (weak_set count holder rules (admins_of holder users old) old admin target role mid step at)

-- a step leaves such a set
step_set : (count : ℕ) (kind : ActKind) (holder : Holder) (rules : Rules) (users old : List (List ℕ)) (admin target role : ℕ) (new : List (List ℕ))
    → role < count → KindStep kind holder rules users old admin target role new → IsSetAt count target old → IsSetAt count target new
step_set count Assign holder rules users old admin target role new within step at =
    set_at count target old new step.set (with_role step.set role) step.set_is step.gives
    (more_set count step.set role (at step.set step.set_is) within)
step_set count Weak holder rules users old admin target role new within step at =
    weak_set count holder rules users old admin target role new step at
step_set count Strong holder rules users old admin target role new within step at = weak_sets count holder rules users old admin target _ new step.steps at

-- the target of a step has a set
step_target : (kind : ActKind) (holder : Holder) (rules : Rules) (users old : List (List ℕ)) (admin target role : ℕ) (new : List (List ℕ))
    → KindStep kind holder rules users old admin target role new → (set : List ℕ) × (slice_get old target ≡ Some set)
step_target Assign holder rules users old admin target role new step = (step.set, step.set_is)
step_target Weak holder rules users old admin target role new step = (step.set, step.set_is)
step_target Strong holder rules users old admin target role new step = (step.set, step.set_is)

sets_below : (names : List (List ℕ)) (entities : List Entity) → Each (IsSetBelow (length names)) (sets_of names entities)
sets_below names [] = tt
sets_below names (entity ∷ entities) = (held_set names entity.roles, sets_below names entities)

-- the roles of the target of a granted request differ
pub granted_roles : (rules : Rules) (kept : Kept) (request : Request) (entity : Entity) → AreDifferent rules.order.names
    → IsGranted rules kept request entity → AreDifferent entity.roles
granted_roles rules kept request entity different granted =
    subst (λ (e : Entity). AreDifferent e.roles) (sym granted.entity_is) (roles_differ names granted.set different
    (step_set (length names) granted.act.kind request.on rules (sets_of names kept.users) old granted.act.admin granted.act.target granted.act.role
    (slice_set old granted.act.target granted.set) (place_below names request.role granted.act.role granted.act_is.role) granted.step
    (λ set at. each_at (IsSetBelow (length names)) old granted.act.target set (sets_below names (of_kind request.on kept)) at) granted.set
    (get_set old granted.act.target there.0 granted.set there.1)))
  where
    names : List (List ℕ)
    names = rules.order.names

    old : List (List ℕ)
    old = sets_of names (of_kind request.on kept)

    there : (set : List ℕ) × (slice_get old granted.act.target ≡ Some set)
    there = step_target granted.act.kind request.on rules (sets_of names kept.users) old granted.act.admin granted.act.target granted.act.role
        (slice_set old granted.act.target granted.set) granted.step
