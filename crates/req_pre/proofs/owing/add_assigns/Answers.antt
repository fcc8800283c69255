use Rattle.std.proofs.Common.{rules, ◌<◌, length}
use Rattle.req_pre.specs.Owing.{by_assign}
use Rattle.req_pre.proofs.OwingLemmas.{places_more}
use Rattle.req_pre.proofs.owing.add_assigns.Goals as goal

pub loop-place-preserved : goal.loop-place-preserved
loop-place-preserved c =
    let there : c.loop-place.place < length c.args.prepared.now.assign = search rules in
    places_more (by_assign c.args.prepared.now c.args.users.now) _ _ _ c.args.prepared.now.assign c.loop-place.place there
    c.in_ok-add_assign.ensures c.loop-place.invariant
