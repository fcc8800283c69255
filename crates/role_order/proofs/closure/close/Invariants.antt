use Rattle.std.proofs.Common.{take}
use Rattle.role_order.specs.Graph.{AreAcyclic}
use Rattle.role_order.specs.Closures.{AreAbove}
use Rattle.role_order.proofs.closure.close.Given as goal

abbrev pub invariant-loop-place : goal.invariant-loop-place
invariant-loop-place l = record {
  table : AreAbove l.count (take l.place l.edges) l.above.items;
  acyclic : AreAcyclic (take l.place l.edges);
}
