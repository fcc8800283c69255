use Rattle.req_pre.proofs.OwingLemmas.{within_is}
use Rattle.req_pre.proofs.owing.is_within.Goals as goal

pub returns : goal.returns
returns c =
    within_is c.args.order.now c.requires.order c.args.range.now c.args.role c.requires.role c.in_range.result c.in_range.ensures
