use Rattle.req_pre.specs.Owing.{by_other}
use Rattle.req_pre.proofs.OwingLemmas.{count_step}
use Rattle.req_pre.proofs.owing.add_others.Goals as goal

pub loop-place-preserved : goal.loop-place-preserved
loop-place-preserved c =
    count_step (by_other c.args.origin c.args.role c.args.target) _ _ _ c.args.count c.loop-place.place c.loop-place-test.true
    c.in_ok-add_other.ensures c.loop-place.invariant
