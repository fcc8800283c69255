use Rattle.list_words.proofs.GetLemmas.{get_map}
use Rattle.arbac_laws.specs.Views.{need_of, needs_of}
use Rattle.need_marks.specs.Marks.{IsUserMark}
use Rattle.cert_check.proofs.BookLemmas.{item_there}
use Rattle.cert_check.proofs.IndexLemmas.{marks_more}
use Rattle.cert_check.proofs.index.marks_of.Goals as goal

-- one user more is marked
pub loop-user-preserved : goal.loop-user-preserved
loop-user-preserved c =
    let order = c.args.order.now in
    let users = c.args.users.now in
    let i = c.loop-user.user-index in
    let user = c.user-item.result in
    let at = item_there users i user c.loop-user-test.true c.user-item.is in
    let is : IsUserMark order (need_of user) c.of.result = rw c.deref.ensures.value at c.of.ensures in
    rw c.in_ok-push.ensures.items
    (marks_more order (needs_of users) i (need_of user) c.loop-user.marks.items c.of.result (get_map need_of users i user at) c.loop-user.invariant is)
