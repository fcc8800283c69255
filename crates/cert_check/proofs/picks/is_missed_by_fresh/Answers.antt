use Rattle.cert_needs.specs.Wanted.{needs_wanted}
use Rattle.cert_check.proofs.PickLemmas.{marks_push}
use Rattle.cert_check.proofs.picks.is_missed_by_fresh.Goals as goal

-- the new user's mark is the last
pub is_missed-requires : goal.is_missed-requires
is_missed-requires c =
    rw (c.requires.order, c.deref.ensures.value, c.deref-2.ensures.value, c.in_ok-add_fresh.ensures.needs, c.in_ok-push.ensures.items)
    (marks_push c.args.order.now (needs_wanted c.args.users.now.items) c.args.marks.now.items _ c.of.result c.requires.marks
    (rw c.empty.ensures at c.of.ensures))
