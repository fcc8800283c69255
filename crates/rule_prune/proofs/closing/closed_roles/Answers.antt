use Rattle.std.proofs.Common.{arith}
use Rattle.rule_prune.specs.Relevant.{AreAmong, LeadsOn}
use Rattle.rule_prune.specs.Steps.{ByEach}
use Rattle.rule_prune.proofs.RelevantLemmas.{among_order}
use Rattle.rule_prune.proofs.StepLemmas.{way_ends, way_goes_on, way_starts}
use Rattle.rule_prune.proofs.closing.closed_roles.Goals as goal

pub loop-more-init : goal.loop-more-init
loop-more-init c = way_starts AreAmong (ByEach LeadsOn c.args.links.now) among_order c.args.start.now

pub loop-more-preserved : goal.loop-more-preserved
loop-more-preserved c =
    way_goes_on AreAmong (ByEach LeadsOn c.args.links.now) among_order c.args.start.now c.loop-more.roles c.in-Some.more c.loop-more.invariant
    c.in-Some.ensures.step

pub loop-more-smaller : goal.loop-more-smaller
loop-more-smaller c = omega (arith, c.in-Some.ensures.grown, c.in-Some.ensures.few)

pub returns : goal.returns
returns c = way_ends AreAmong (ByEach LeadsOn c.args.links.now) c.args.start.now c.loop-more.roles c.loop-more.invariant c.in_default.ensures.none
