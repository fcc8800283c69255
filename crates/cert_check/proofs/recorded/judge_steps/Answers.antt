use Rattle.cert_check.proofs.QuestionLemmas.{goal_known, goal_terms, narrow_rules}
use Rattle.cert_check.proofs.recorded.judge_steps.Goals as goal

-- the rules are narrow
pub new-requires : goal.new-requires
new-requires c = narrow_rules c.args.question.now c.requires.question

-- the goal has few terms
pub goal_requirements-requires-clause-terms : goal.goal_requirements-requires-clause-terms
goal_requirements-requires-clause-terms c = rw c.deref.ensures.value (goal_terms c.args.question.now c.requires.question)

-- and known roles
pub goal_requirements-requires-clause-known : goal.goal_requirements-requires-clause-known
goal_requirements-requires-clause-known c =
    rw (c.deref.ensures.value, c.order.ensures.order) (goal_known c.args.question.now c.requires.question)
