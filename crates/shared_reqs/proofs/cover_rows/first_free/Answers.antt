use Rattle.std.proofs.Common.{◌≡◌, Some}
use Rattle.std.specs.Prelude.{slice_get}
use Rattle.shared_reqs.specs.Shared.{needs_shared}
use Rattle.shared_reqs.proofs.RowLemmas.{item_there, need_read}
use Rattle.shared_reqs.proofs.cover_rows.first_free.Goals as goal

-- this place is free, and the one there is covered
pub returns-then-covers_user : goal.returns-then-covers_user
returns-then-covers_user c =
    let others = c.args.others.now in
    let at = c.loop-place.place in
    let other = c.user.result.now in
    let here : slice_get (needs_shared others) at ≡ Some other =
    need_read others at c.index-others-place.result c.deref.result.now other
    (item_there others at c.index-others-place.result c.loop-place-test.true c.index-others-place.is) c.deref.ensures c.user.ensures.need in
    (c.is_free.ensures.0 c.if-is_free.true, (other, here, c.covers_user.ensures.0 c.if-covers_user.true))
