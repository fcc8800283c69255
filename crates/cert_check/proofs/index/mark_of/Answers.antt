use Rattle.std.proofs.Common.{arith}
use Rattle.std.proofs.lemmas.List.{length-map}
use Rattle.arbac_laws.specs.Views.{need_of, needs_of}
use Rattle.need_marks.proofs.MarkLemmas.{marks_long}
use Rattle.cert_check.proofs.index.mark_of.Goals as goal

-- there are as many marks as users
pub of-requires : goal.of-requires
of-requires c =
    let users = c.args.users.now in
    let long = marks_long c.args.order.now (needs_of users) c.in_ok-marks.marks.items c.in_ok-marks.ensures in
    let all = length-map users need_of in
    rw c.deref.ensures.value (omega (arith, long, all, c.if-users.false))
