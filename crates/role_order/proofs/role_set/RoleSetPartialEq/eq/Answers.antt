use Rattle.std.proofs.Common.{eqb}
use Rattle.std.proofs.lemmas.Bool.{eqb-true, eq-eqb}
use Rattle.role_order.proofs.MaskLemmas.{equal_masks}
use Rattle.role_order.proofs.role_set.RoleSetPartialEq.eq.Goals as goal

-- with equal low masks, the high ones decide
pub returns-then-self-other : goal.returns-then-self-other
returns-then-self-other c = rw (← c.self.view_is, ← c.other.view_is)
    (equal_masks c.self.inside.low c.self.inside.high c.other.inside.low c.other.inside.high c.self.invariant c.other.invariant
    (eqb c.self.inside.high c.other.inside.high)
    (λ h. (c.if-self-other.true, eqb-true c.self.inside.high c.other.inside.high h)) (λ e. eq-eqb c.self.inside.high c.other.inside.high e.1))

-- the low masks differ
pub returns-else-self-other : goal.returns-else-self-other
returns-else-self-other c = rw (← c.self.view_is, ← c.other.view_is)
    (equal_masks c.self.inside.low c.self.inside.high c.other.inside.low c.other.inside.high c.self.invariant c.other.invariant
    (eqb c.self.inside.low c.other.inside.low)
    (λ h. absurd (c.if-self-other.false (eqb-true c.self.inside.low c.other.inside.low h))) (λ e. eq-eqb c.self.inside.low c.other.inside.low e.0))
