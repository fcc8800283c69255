use Rattle.role_order.proofs.ClosureLemmas.{in_range_of}
use Rattle.role_order.proofs.order.Order.roles_of.Goals as goal

-- the roles above the low end and below the high one, without each open end
pub returns-clause-roles : goal.returns-clause-roles
returns-clause-roles c =
    in_range_of c.args.self.now c.args.range.now c.above.result.now c.below.result.now c.common-between.result c.without_open-from_low.result
    c.without_open-roles.result
    c.above.ensures.order.ends c.requires.low c.above.ensures.each c.below.ensures.each c.common-between.ensures.common
    c.without_open-from_low.ensures c.without_open-roles.ensures
