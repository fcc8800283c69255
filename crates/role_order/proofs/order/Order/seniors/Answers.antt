use Rattle.role_order.proofs.ClosureLemmas.{above_seniors}
use Rattle.role_order.proofs.order.Order.seniors.Goals as goal

pub returns-clause-seniors : goal.returns-clause-seniors
returns-clause-seniors c = above_seniors c.args.self.now c.args.role c.above.result.now c.above.ensures.order.ends c.above.ensures.rises c.above.ensures.each
