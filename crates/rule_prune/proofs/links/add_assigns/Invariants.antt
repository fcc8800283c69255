use Rattle.std.proofs.Common.{take}
use Rattle.rule_prune.specs.Relevant.{AsksToAssign}
use Rattle.rule_prune.proofs.RelevantLemmas.{AreLinked}
use Rattle.rule_prune.proofs.links.add_assigns.Given as goal

-- what the rules so far ask for is added
abbrev pub invariant-loop-rule : goal.invariant-loop-rule
invariant-loop-rule l = AreLinked (AsksToAssign l.policy.order) (take l.rule-index l.policy.assign) l.fn.links.items l.links.items
