use Rattle.req_pre.specs.Owing.{by_role}
use Rattle.req_pre.proofs.OwingLemmas.{count_step}
use Rattle.req_pre.proofs.owing.add_roles.Goals as goal

pub loop-role-preserved : goal.loop-role-preserved
loop-role-preserved c =
    count_step (by_role c.args.origin c.args.order.now c.args.range.now c.args.users.now) _ _ _ c.count-count.result c.loop-role.role c.loop-role-test.true
    c.in_ok-add_role.ensures c.loop-role.invariant
