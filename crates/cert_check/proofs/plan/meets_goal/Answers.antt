use Rattle.std.proofs.Common.{map}
use Rattle.arbac_policy.specs.Truth.{term_of}
use Rattle.cert_check.proofs.PlanLemmas.{met_goal}
use Rattle.cert_check.proofs.QuestionLemmas.{goal_known}
use Rattle.cert_check.proofs.plan.meets_goal.Goals as goal

-- the goal's roles are known, since the question keeps its rules
pub goal_met-requires-clause-known : goal.goal_met-requires-clause-known
goal_met-requires-clause-known c = rw c.deref.ensures.value (goal_known c.args.question.now c.requires.question)

pub returns : goal.returns
returns c =
    met_goal c.args.question.now.policy.order.edges (map term_of c.args.question.now.goal.items) c.args.sets.now c.in_ok-met.met c.is_some.result
    c.is_some.ensures (rw c.deref.ensures.value at c.in_ok-met.ensures.met) (rw c.deref.ensures.value at c.in_ok-met.ensures.unmet)
