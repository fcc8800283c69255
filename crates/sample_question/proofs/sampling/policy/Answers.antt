use Rattle.sample_question.proofs.RuleLemmas.{is_known, is_countable}
use Rattle.sample_question.proofs.sampling.policy.Goals as goal

pub policy_of-requires-clause-known : goal.policy_of-requires-clause-known
policy_of-requires-clause-known c =
    is_known c.args.size c.in_ok-order.order c.in_ok-given.given.items c.in_ok-order.ensures.names c.in_ok-given.ensures

pub policy_of-requires-clause-few : goal.policy_of-requires-clause-few
policy_of-requires-clause-few c =
    is_countable c.args.size c.in_ok-order.order c.in_ok-given.given.items c.requires c.in_ok-given.ensures
