use Rattle.std.proofs.Common.{◌≡◌, take, map}
use Rattle.role_order.specs.Graph.{turned}
use Rattle.role_order.proofs.order.turn.Given as goal

abbrev pub invariant-loop-senior : goal.invariant-loop-senior
invariant-loop-senior l = l.back.items ≡ map turned (take l.senior-index l.edges)
