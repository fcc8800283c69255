use Rattle.std.proofs.Common.{take}
use Rattle.rule_prune.specs.Relevant.{AsksApart}
use Rattle.rule_prune.proofs.RelevantLemmas.{AreLinked}
use Rattle.rule_prune.proofs.links.add_pairs.Given as goal

-- what the pairs so far ask for is added
abbrev pub invariant-loop-pair : goal.invariant-loop-pair
invariant-loop-pair l = AreLinked (AsksApart l.policy.order l.givable) (take l.pair-index l.policy.exclusive) l.fn.links.items l.links.items
