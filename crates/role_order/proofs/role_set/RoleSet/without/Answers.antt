use Rattle.role_order.proofs.MaskLemmas.{set_without_low, set_without_high, set_without_none}
use Rattle.role_order.proofs.role_set.RoleSet.without.Goals.{then-role, else-role}
use Rattle.role_order.proofs.role_set.RoleSet.without.Goals as goal

-- a low bit is cleared
pub returns-then-role-lt-MASK_BITS : goal.returns-then-role-lt-MASK_BITS
returns-then-role-lt-MASK_BITS c =
    rw (← c.self.view_is, c.bit.ensures) (set_without_low c.self.inside.low c.self.inside.high c.args.role c.self.invariant c.if-role-lt-MASK_BITS.true)

-- a high bit is cleared, or none
pub returns-after-role : goal.returns-after-role
returns-after-role c = elim c.if-role.branch [
  | then-role w ↦ rw (c.result.view_is, w.result-is, w.bit-then-role.ensures, ← c.self.view_is)
      (set_without_high c.self.inside.low c.self.inside.high c.args.role c.self.invariant c.if-role-lt-MASK_BITS.false w.if-role.true)
  | else-role w ↦ rw (c.result.view_is, w.result-is, ← c.self.view_is)
      (set_without_none c.self.inside.low c.self.inside.high c.args.role c.self.invariant w.if-role.false)
]
