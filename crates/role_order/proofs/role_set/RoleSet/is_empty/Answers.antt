use Rattle.std.proofs.lemmas.Bool.{eqb-true, eq-eqb}
use Rattle.role_order.proofs.MaskLemmas.{masks_of_none, set_of_masks_none}
use Rattle.role_order.proofs.role_set.RoleSet.is_empty.Goals as goal

-- with no low bit, the high ones decide
pub returns-then-self-eq0 : goal.returns-then-self-eq0
returns-then-self-eq0 c = rw (← c.self.view_is) (
  λ h. set_of_masks_none c.self.inside.low c.self.inside.high c.if-self-eq0.true (eqb-true c.self.inside.high 0 h),
  λ e. eq-eqb c.self.inside.high 0 (masks_of_none c.self.inside.low c.self.inside.high c.self.invariant e).1,
)

-- a low bit is set
pub returns-else-self-eq0 : goal.returns-else-self-eq0
returns-else-self-eq0 c = rw (← c.self.view_is) (
  λ h. absurd (c.if-self-eq0.false (eqb-true c.self.inside.low 0 h)),
  λ e. eq-eqb c.self.inside.low 0 (masks_of_none c.self.inside.low c.self.inside.high c.self.invariant e).0,
)
