use Rattle.std.proofs.Common.{[], ◌∷◌}
use Rattle.list_words.proofs.GetLemmas.{get_map}
use Rattle.arbac_laws.specs.Views.{need_of, needs_of}
use Rattle.cert_check.proofs.BookLemmas.{item_there, seen_more}
use Rattle.cert_check.proofs.goals.with_first.Goals as goal

-- one user more is copied
pub loop-user-preserved : goal.loop-user-preserved
loop-user-preserved c =
    let tail = c.args.tail.now in
    let i = c.loop-user.user-index in
    let user = c.user-item.result in
    let at = item_there tail i user c.loop-user-test.true c.user-item.is in
    seen_more need_of (need_of c.args.first.now ∷ []) (needs_of tail) c.loop-user.users.items c.push-in-loop-user.new.self.items i
    c.in_ok-copy_of-2.field-0 (need_of user) c.loop-user.invariant (get_map need_of tail i user at) c.in_ok-push-2.ensures.items c.in_ok-copy_of-2.ensures
