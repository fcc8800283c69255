use Rattle.role_order.proofs.SetLemmas.{rises-with_role}
use Rattle.ura_core.proofs.strong.falling.Goals as goal

-- the common roles rise, and so they do with one role more
pub returns-clause-rises : goal.returns-clause-rises
returns-clause-rises c = rw c.with.ensures (rises-with_role c.common.result c.args.role c.common.ensures.rises)
