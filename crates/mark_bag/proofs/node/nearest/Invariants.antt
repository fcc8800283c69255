use Rattle.std.proofs.Common.{◌<◌, length}
use Rattle.mark_bag.proofs.node.nearest.Given as goal

abbrev pub invariant-loop-place : goal.invariant-loop-place
invariant-loop-place g l = l.nearest < length l.nodes
