use Rattle.role_order.proofs.NameLemmas.{numbers_more}
use Rattle.role_order.proofs.name_table.numbers.Goals as goal

-- one number more
pub loop-number-preserved : goal.loop-number-preserved
loop-number-preserved c = rw c.in_ok-push.ensures.items (numbers_more c.loop-number.numbers.items c.loop-number.number c.loop-number.invariant)
