use Rattle.cert_check.proofs.ImageLemmas.{range_is, roles_known}
use Rattle.cert_check.proofs.useful.roles_of.Goals as goal

-- a rising list of the same roles
pub returns-clause-roles : goal.returns-clause-roles
returns-clause-roles c =
    range_is c.args.order.now c.is_order.ensures c.args.range.now c.roles_of.result c.roles_of.ensures.set.rises c.roles_of.ensures.roles

pub returns-clause-known : goal.returns-clause-known
returns-clause-known c = roles_known c.args.order.now c.args.range.now c.roles_of.result c.roles_of.ensures.roles
