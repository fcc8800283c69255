use Rattle.std.proofs.Common.{◌-◌, sym, refl}
use Rattle.role_order.specs.declared.TheConstants.{MOST_ROLES, MASK_BITS}
use Rattle.role_order.proofs.MaskLemmas.{length-held_roles}
use Rattle.role_order.proofs.role_set.RoleSet.len.Goals as goal

-- each bit is a role
pub returns : goal.returns
returns c = rw (← c.self.view_is)
    (sym (length-held_roles MASK_BITS
    (MOST_ROLES - MASK_BITS) c.self.inside.low c.self.inside.high refl c.self.invariant.low_fits c.self.invariant.high_fits))
