use Rattle.std.proofs.Common.{◌≡◌, length, take}
use Rattle.hall_match.specs.Rows.{lists, HaveEdges}
use Rattle.hall_match.proofs.rows.filled_rows.Given as goal

abbrev pub invariant-loop-item : goal.invariant-loop-item
invariant-loop-item l = record {
  whole : length l.rows.items ≡ length l.initial.rows.items;
  edges : HaveEdges (lists l.rows.items) (take l.item-index l.edges);
}
