use Rattle.std.proofs.Common.{rules, ◌≡◌, ◌≤◌, ◌∙◌, length, map, ap, sym, subst, arith, Option, Some, None}
use Rattle.role_order.specs.Graph.{Graph}
use Rattle.role_order.proofs.ClosureLemmas.{length_mapped}
use Rattle.arbac_policy.specs.Truth.{term_of}
use Rattle.arbac_laws.specs.Goals.{goal_requirements}
use Rattle.arbac_laws.specs.NormalForms.{normal_form}
use Rattle.req_core.specs.Answers.{form_in}
use Rattle.arbac_rules.specs.declared.TheConstants.{MOST_CONJUNCTS}
use Rattle.req_pre.specs.Answers.{AreGoalPlaces}
use Rattle.std.specs.Prelude.{IfNone}
use Rattle.req_pre.proofs.goal_list.goals.Goals as goal

no_count : {A : Type 0} (o : Option A) {P : Type 0} → IfNone o P → o ≡ None → P
no_count None h e = h
no_count (Some x) h e = cc

pub returns-in-Ok-clause-places : goal.returns-in-Ok-clause-places
returns-in-Ok-clause-places c =
    let same : c.order.result.now ≡ c.args.prepared.now.order = rw (c.policy.ensures) at c.order.ensures.order in
    subst (λ (order : Graph). AreGoalPlaces (goal_requirements order (map term_of c.args.goal.now)) c.in-Ok.list.items) same c.in-Ok.ensures.places

pub returns-in-Ok-clause-few : goal.returns-in-Ok-clause-few
returns-in-Ok-clause-few c =
    let order = c.order.result.now in
    let conds = map term_of c.args.goal.now in
    let none : IfNone c.too_many.result ((order : Graph) → length (goal_requirements order conds) ≤ MOST_CONJUNCTS) = c.too_many.ensures.few in
    let few : length (goal_requirements order conds) ≤ MOST_CONJUNCTS = no_count c.too_many.result none (search rules) order in
    let long = sym (length_mapped form_in c.in-Ok.list.items) ∙ ap length c.in-Ok.ensures.list
    ∙ length_mapped normal_form (goal_requirements order conds) in
    omega (few, long, arith)
