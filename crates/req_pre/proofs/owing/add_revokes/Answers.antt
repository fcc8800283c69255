use Rattle.std.proofs.Common.{rules, ◌<◌, length}
use Rattle.req_pre.specs.Owing.{by_revoke}
use Rattle.req_pre.proofs.OwingLemmas.{places_more}
use Rattle.req_pre.proofs.owing.add_revokes.Goals as goal

pub loop-place-preserved : goal.loop-place-preserved
loop-place-preserved c =
    let there : c.loop-place.place < length c.args.prepared.now.revoke = search rules in
    places_more (by_revoke c.args.prepared.now c.args.users.now) _ _ _ c.args.prepared.now.revoke c.loop-place.place there
    c.in_ok-add_revoke.ensures c.loop-place.invariant
