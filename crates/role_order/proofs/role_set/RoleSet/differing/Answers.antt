use Rattle.role_order.proofs.MaskLemmas.{differing_masks, has_role-differing, is_role_set}
use Rattle.role_order.proofs.role_set.RoleSet.differing.Goals as goal

pub invariant_of-result : goal.invariant_of-result
invariant_of-result c = differing_masks c.self.inside.low c.self.inside.high c.other.inside.low c.other.inside.high c.self.invariant c.other.invariant

-- the bits of one alone are set
pub returns-clause-differ : goal.returns-clause-differ
returns-clause-differ c = rw (← c.self.view_is, ← c.other.view_is)
    (has_role-differing c.self.inside.low c.self.inside.high c.other.inside.low c.other.inside.high c.self.invariant c.other.invariant)

pub returns-clause-sets : goal.returns-clause-sets
returns-clause-sets c = rw (← c.self.view_is, ← c.other.view_is)
    (is_role_set c.self.inside.low c.self.inside.high c.self.invariant, is_role_set c.other.inside.low c.other.inside.high c.other.invariant)
