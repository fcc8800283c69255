use Rattle.std.proofs.Common.{◌≡◌, ◌++◌, map, take, drop}
use Rattle.role_order.specs.Closures.{raised_set}
use Rattle.role_order.proofs.closure.add_edge.Given as goal

abbrev pub invariant-loop-set : goal.invariant-loop-set
invariant-loop-set l =
    l.set-items ≡ map (raised_set l.seniors l.senior l.junior) (take l.set-index l.initial.set-items) ++ drop l.set-index l.initial.set-items
