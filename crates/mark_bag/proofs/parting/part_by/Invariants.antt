use Rattle.std.proofs.Common.{◌≤◌, ◌+◌, length}
use Rattle.std.specs.Prelude.{vec_len, vec_capacity}
use Rattle.mark_bag.proofs.PartingLemmas.{ArePartedTo}
use Rattle.mark_bag.proofs.parting.part_by.Given as goal

-- as `l.fn.node` stands for the node at entry
abbrev pub invariant-loop-part : goal.invariant-loop-part
invariant-loop-part g l = record {
  parted : ArePartedTo g.M.Mark.within l.fn.node.parts.items l.marks l.node.parts.items l.one.parts.items l.one.common l.other.parts.items
      l.other.common;
  marks_enough : length l.node.parts.items ≤ length l.marks;
  one_room : length l.node.parts.items + vec_len l.one.parts ≤ vec_capacity l.one.parts;
  other_room : length l.node.parts.items + vec_len l.other.parts ≤ vec_capacity l.other.parts;
}

abbrev pub decreases-loop-part : goal.decreases-loop-part
decreases-loop-part g l = vec_len l.node.parts
