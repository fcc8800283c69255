use Rattle.std.proofs.Common.{[]}
use Rattle.arbac_policy.specs.Truth.{term_of}
use Rattle.arbac_policy.specs.declared.cond.Cond.{Cond}
use Rattle.rule_prune.specs.Relevant.{AreAmong, LeadsOn, asked}
use Rattle.rule_prune.specs.Steps.{ByEach, IsClosure, IsStep}
use Rattle.rule_prune.proofs.RelevantLemmas.{least_roles}
use Rattle.rule_prune.proofs.closing.relevant_roles.Goals as goal

pub returns : goal.returns
returns c =
    let rules = c.args.policy.now in
    let first : IsStep AreAmong (ByEach (λ (cond : Cond) old new. AreAmong (asked rules.order (term_of cond)) new) c.args.goal.now)
    (record { wanted = []; barred = [] }) c.goal_roles-start.result = rw c.order.ensures.order at c.goal_roles-start.ensures in
    let closure : IsClosure AreAmong (ByEach LeadsOn c.in_ok-links.links.items) c.goal_roles-start.result c.closed_roles.result =
    rw c.deref.ensures.value at c.closed_roles.ensures in
    least_roles rules c.args.goal.now c.in_ok-links.links.items c.goal_roles-start.result c.closed_roles.result first closure c.in_ok-links.ensures
