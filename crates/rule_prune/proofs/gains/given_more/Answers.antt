use Rattle.role_order.specs.Roles.{IsWithin}
use Rattle.rule_prune.specs.Gains.{GiveAll}
use Rattle.rule_prune.proofs.GainLemmas.{all_stays, within_order}
use Rattle.rule_prune.proofs.StepLemmas.{nothing_new}
use Rattle.rule_prune.proofs.gains.given_more.Goals as goal

-- the set has all that is given already
pub returns-else-has_grown-clause-none : goal.returns-else-has_grown-clause-none
returns-else-has_grown-clause-none c =
    nothing_new IsWithin (GiveAll c.args.policy.now) within_order (all_stays c.args.policy.now) c.args.set.now c.with_all_given-wider.result
    c.with_all_given-wider.ensures (c.has_grown.ensures.same c.if-has_grown.false)
