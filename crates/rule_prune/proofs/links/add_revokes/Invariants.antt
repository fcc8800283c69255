use Rattle.std.proofs.Common.{take}
use Rattle.rule_prune.specs.Relevant.{AsksToRevoke}
use Rattle.rule_prune.proofs.RelevantLemmas.{AreLinked}
use Rattle.rule_prune.proofs.links.add_revokes.Given as goal

-- what the rules so far ask for is added
abbrev pub invariant-loop-rule : goal.invariant-loop-rule
invariant-loop-rule l = AreLinked (AsksToRevoke l.policy.order) (take l.rule-index l.policy.revoke) l.fn.links.items l.links.items
