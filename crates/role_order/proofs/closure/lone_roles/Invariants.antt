use Rattle.std.proofs.Common.{[]}
use Rattle.role_order.specs.Closures.{AreAbove}
use Rattle.role_order.proofs.closure.lone_roles.Given as goal

abbrev pub invariant-loop-role : goal.invariant-loop-role
invariant-loop-role l = AreAbove l.role [] l.above.items
