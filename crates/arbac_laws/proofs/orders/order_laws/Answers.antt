use Rattle.role_order.proofs.OrderLemmas.{set_order}
use Rattle.arbac_laws.proofs.OrderLemmas.{hits_order, need_order, requirement_order}
use Rattle.arbac_laws.proofs.orders.order_laws.Goals as goal

pub returns : goal.returns
returns c = record { sets = set_order; hits = hits_order; needs = need_order; requirements = requirement_order }
