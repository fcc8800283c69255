use Rattle.std.proofs.Common.{◌∙◌, sym}
use Rattle.role_order.proofs.MaskLemmas.{has_role-masks, in_low, in_high, is_role_set}
use Rattle.role_order.proofs.role_set.RoleSet.has.Goals as goal

-- the low mask has the role's bit
pub returns-then-role-lt-MASK_BITS-clause-value : goal.returns-then-role-lt-MASK_BITS-clause-value
returns-then-role-lt-MASK_BITS-clause-value c = rw (← c.self.view_is)
    (c.has_bit.ensures ∙ sym (has_role-masks c.self.inside.low c.self.inside.high c.self.invariant c.args.role
    ∙ in_low c.self.inside.low c.self.inside.high c.args.role c.if-role-lt-MASK_BITS.true))

-- the high mask has it
pub returns-else-role-lt-MASK_BITS-clause-value : goal.returns-else-role-lt-MASK_BITS-clause-value
returns-else-role-lt-MASK_BITS-clause-value c = rw (← c.self.view_is)
    (c.has_bit-else-role-lt-MASK_BITS.ensures
    ∙ sym (has_role-masks c.self.inside.low c.self.inside.high c.self.invariant c.args.role
    ∙ in_high c.self.inside.low c.self.inside.high c.args.role c.if-role-lt-MASK_BITS.false))

pub returns-then-role-lt-MASK_BITS-clause-set : goal.returns-then-role-lt-MASK_BITS-clause-set
returns-then-role-lt-MASK_BITS-clause-set c = rw (← c.self.view_is) (is_role_set c.self.inside.low c.self.inside.high c.self.invariant)

pub returns-else-role-lt-MASK_BITS-clause-set : goal.returns-else-role-lt-MASK_BITS-clause-set
returns-else-role-lt-MASK_BITS-clause-set c = rw (← c.self.view_is) (is_role_set c.self.inside.low c.self.inside.high c.self.invariant)
