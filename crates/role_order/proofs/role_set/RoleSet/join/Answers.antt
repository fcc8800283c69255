use Rattle.role_order.proofs.MaskLemmas.{joined_masks, joined_set}
use Rattle.role_order.proofs.role_set.RoleSet.join.Goals as goal

pub invariant_of-result : goal.invariant_of-result
invariant_of-result c = joined_masks c.self.inside.low c.self.inside.high c.other.inside.low c.other.inside.high c.self.invariant c.other.invariant

-- the bits of one or the other are set
pub returns : goal.returns
returns c = rw (← c.self.view_is, ← c.other.view_is)
    (joined_set c.self.inside.low c.self.inside.high c.other.inside.low c.other.inside.high c.self.invariant c.other.invariant)
