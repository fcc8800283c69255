use Rattle.std.proofs.Common.{sym}
use Rattle.cert_text.proofs.UserReadLemmas.{end_hit, end_lack, end_other, end_stop}
use Rattle.cert_text.proofs.lists.end_user.Goals as goal

-- a faulty list is no pair's
pub returns-in_default : goal.returns-in_default
returns-in_default c = rw (end_stop c.args.order.now.names c.args.key.now c.args.list.now c.in_default.ensures)

-- the set is a hit more, and no role is lacked
pub returns-in_ok-hits : goal.returns-in_ok-hits
returns-in_ok-hits c =
    rw (c.user_with.ensures, c.in_ok-hits.ensures, c.empty.ensures)
    (end_hit c.args.order.now.names _ c.in-Some.set c.args.key.now c.args.list.now (sym c.if-is.ensures) c.in-Some.ensures)

-- the set is that of the lacks
pub returns-then-is-2 : goal.returns-then-is-2
returns-then-is-2 c =
    rw c.user_with-then-is-2.ensures
    (end_lack c.args.order.now.names _ c.in-Some.set c.args.key.now c.args.list.now (sym c.if-is.ensures) (sym c.if-is-2.ensures) c.in-Some.ensures)

-- another word is no pair's
pub returns-else-is-2 : goal.returns-else-is-2
returns-else-is-2 c = rw (end_other c.args.key.now c.args.list.now (sym c.if-is.ensures) (sym c.if-is-2.ensures))
