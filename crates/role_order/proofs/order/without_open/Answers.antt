use Rattle.role_order.proofs.ClosureLemmas.{cut_open}
use Rattle.role_order.proofs.order.without_open.Goals as goal

-- the end is taken out
pub returns-then-is_open : goal.returns-then-is_open
returns-then-is_open c = rw (c.without.ensures, c.if-is_open.true) (λ role. cut_open c.args.set.now c.args.end role)
