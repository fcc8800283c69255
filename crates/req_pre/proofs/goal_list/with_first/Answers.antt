use Rattle.std.proofs.Common.{◌≡◌, [], ◌∷◌}
use Rattle.arbac_laws.specs.Views.{need_of, needs_of}
use Rattle.req_pre.proofs.PreparedLemmas.{at_mapped}
use Rattle.req_pre.proofs.GoalListLemmas.{item_there, seen_more}
use Rattle.req_pre.proofs.goal_list.with_first.Goals as goal

pub loop-user-preserved : goal.loop-user-preserved
loop-user-preserved c =
    let tail = c.args.tail.now in
    let user = c.user-item.result in
    let at = item_there tail c.loop-user.user-index user c.loop-user-test.true c.user-item.is in
    let copied : need_of c.in_ok-raw_user-2.field-0 ≡ need_of user = rw (c.deref-in-loop-user.ensures.value) at c.in_ok-raw_user-2.ensures in
    seen_more need_of (need_of c.args.first.now ∷ []) (needs_of tail) c.loop-user.raw.items c.push-in-loop-user.new.self.items c.loop-user.user-index
    c.in_ok-raw_user-2.field-0 (need_of user) c.loop-user.invariant
    (at_mapped need_of tail c.loop-user.user-index user at) c.in_ok-push-2.ensures.items copied
