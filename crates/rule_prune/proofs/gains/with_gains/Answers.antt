use Rattle.std.proofs.Common.{arith}
use Rattle.role_order.specs.Roles.{IsWithin}
use Rattle.rule_prune.specs.Gains.{GiveAll}
use Rattle.rule_prune.proofs.GainLemmas.{within_order}
use Rattle.rule_prune.proofs.StepLemmas.{way_ends, way_goes_on, way_starts}
use Rattle.rule_prune.proofs.gains.with_gains.Goals as goal

pub loop-wider-init : goal.loop-wider-init
loop-wider-init c = way_starts IsWithin (GiveAll c.args.policy.now) within_order c.args.start.now

pub loop-wider-preserved : goal.loop-wider-preserved
loop-wider-preserved c =
    way_goes_on IsWithin (GiveAll c.args.policy.now) within_order c.args.start.now c.loop-wider.set c.in-Some.wider c.loop-wider.invariant
    c.in-Some.ensures.step

pub loop-wider-smaller : goal.loop-wider-smaller
loop-wider-smaller c = omega (arith, c.in-Some.ensures.grown, c.in-Some.ensures.few)

pub returns : goal.returns
returns c = way_ends IsWithin (GiveAll c.args.policy.now) c.args.start.now c.loop-wider.set c.loop-wider.invariant c.in_default.ensures.none
