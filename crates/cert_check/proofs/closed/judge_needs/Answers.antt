use Rattle.cert_check.proofs.QuestionLemmas.{goal_known, goal_terms, narrow_rules}
use Rattle.cert_check.proofs.closed.judge_needs.Goals as goal

-- the question keeps its rules
pub new-requires : goal.new-requires
new-requires c = narrow_rules c.args.question.now c.requires.question

pub goal_requirements-requires-clause-terms : goal.goal_requirements-requires-clause-terms
goal_requirements-requires-clause-terms c = rw c.deref.ensures.value (goal_terms c.args.question.now c.requires.question)

pub goal_requirements-requires-clause-known : goal.goal_requirements-requires-clause-known
goal_requirements-requires-clause-known c = rw (c.deref.ensures.value, c.order-order.ensures.order) (goal_known c.args.question.now c.requires.question)
