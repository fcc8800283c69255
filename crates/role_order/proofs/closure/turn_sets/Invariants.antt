use Rattle.role_order.specs.Closures.{AreTurned}
use Rattle.role_order.proofs.closure.turn_sets.Given as goal

abbrev pub invariant-loop-senior : goal.invariant-loop-senior
invariant-loop-senior l = AreTurned l.above l.senior l.below.items
