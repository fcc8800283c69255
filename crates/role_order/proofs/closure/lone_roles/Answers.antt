use Rattle.role_order.proofs.ClosureLemmas.{one_alone}
use Rattle.role_order.proofs.closure.lone_roles.Goals as goal

pub loop-role-preserved : goal.loop-role-preserved
loop-role-preserved c =
    rw (c.in_ok-push.ensures.items, c.with.ensures, c.empty.ensures) (one_alone c.loop-role.above.items c.loop-role.role c.loop-role.invariant)
