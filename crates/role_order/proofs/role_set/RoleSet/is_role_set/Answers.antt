use Rattle.role_order.proofs.MaskLemmas.{is_role_set}
use Rattle.role_order.proofs.role_set.RoleSet.is_role_set.Goals as goal

pub returns : goal.returns
returns c = rw (← c.self.view_is) (is_role_set c.self.inside.low c.self.inside.high c.self.invariant)
