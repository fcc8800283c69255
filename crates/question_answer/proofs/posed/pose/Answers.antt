use Rattle.req_pre.specs.Preparing.{IsTooWide}
use Rattle.req_pre.specs.declared.answers.PrepareError.TheVariants.{TooWide}
use Rattle.cert_check.proofs.QuestionLemmas.{goal_known, goal_terms}
use Rattle.question_answer.proofs.PosingLemmas.{none_wide, short_rules}
use Rattle.question_answer.proofs.posed.pose.Goals as goal

-- the question keeps its rules
pub new-requires : goal.new-requires
new-requires c = short_rules c.args.question c.requires

-- so that no rule is too wide
pub unreachable-requires : goal.unreachable-requires
unreachable-requires c =
    let wide : IsTooWide c.args.question.policy (TooWide c.in-Err-TooWide.field-0-0 c.in-Err-TooWide.field-0-1) =
    rw c.in-Err-TooWide.field-0-is at c.in-Err-TooWide.ensures.wide in
    none_wide c.args.question c.requires c.in-Err-TooWide.field-0-0 wide.0

-- and its goal is within the limits
pub returns-in-Ok-clause-searchable : goal.returns-in-Ok-clause-searchable
returns-in-Ok-clause-searchable c = record {
  terms = goal_terms c.args.question c.requires;
  names = rw c.in-Ok.ensures.policy (goal_known c.args.question c.requires);
}
