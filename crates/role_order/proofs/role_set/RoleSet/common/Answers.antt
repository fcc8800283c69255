use Rattle.std.specs.Prelude.{bit_and}
use Rattle.role_order.specs.declared.TheConstants.{MOST_ROLES}
use Rattle.role_order.proofs.MaskLemmas.{common_set, rises-held_roles}
use Rattle.role_order.proofs.role_set.RoleSet.common.Goals as goal

-- the bits of both are set
pub returns-clause-common : goal.returns-clause-common
returns-clause-common c = rw (← c.self.view_is, ← c.other.view_is)
    (common_set c.self.inside.low c.self.inside.high c.other.inside.low c.other.inside.high c.self.invariant c.other.invariant)

pub returns-clause-rises : goal.returns-clause-rises
returns-clause-rises c = rises-held_roles MOST_ROLES (bit_and c.self.inside.low c.other.inside.low) (bit_and c.self.inside.high c.other.inside.high)
