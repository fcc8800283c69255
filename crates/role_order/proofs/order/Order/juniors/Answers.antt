use Rattle.role_order.proofs.ClosureLemmas.{below_juniors}
use Rattle.role_order.proofs.order.Order.juniors.Goals as goal

pub returns-clause-juniors : goal.returns-clause-juniors
returns-clause-juniors c = below_juniors c.args.self.now c.args.role c.below.result.now c.below.ensures.order.ends c.below.ensures.rises c.below.ensures.each
