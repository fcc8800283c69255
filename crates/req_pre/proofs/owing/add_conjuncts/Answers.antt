use Rattle.req_pre.specs.declared.owing.Origin.TheVariants.{Assign}
use Rattle.req_pre.specs.Owing.{by_roles}
use Rattle.req_pre.proofs.OwingLemmas.{count_step}
use Rattle.req_pre.proofs.owing.add_conjuncts.Goals as goal

pub loop-conjunct-preserved : goal.loop-conjunct-preserved
loop-conjunct-preserved c =
    count_step (λ conjunct. by_roles (Assign c.args.rule conjunct) c.args.order.now c.args.range.now c.args.users.now) _ _ _ c.args.count
    c.loop-conjunct.conjunct c.loop-conjunct-test.true
    c.in_ok-add_roles.ensures c.loop-conjunct.invariant
