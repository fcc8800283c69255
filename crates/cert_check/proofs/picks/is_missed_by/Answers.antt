use Rattle.std.proofs.Common.{◌≡◌, ◌<◌, ◌∙◌, length, Some, sym, ap, arith}
use Rattle.std.specs.Prelude.{slice_get}
use Rattle.list_words.proofs.GetLemmas.{get_at, length_set, set_twice, set_itself}
use Rattle.cert_needs.specs.Wanted.{needs_wanted}
use Rattle.cert_check.proofs.PickLemmas.{mark_there, marks_put}
use Rattle.cert_check.proofs.picks.is_missed_by.Goals as goal

pub bounds-marks-admin : goal.bounds-marks-admin
bounds-marks-admin c = mark_there c.args.order.now c.args.users.now c.args.marks.now c.args.admin c.requires.admin c.requires.marks

pub bounds-marks-admin-2 : goal.bounds-marks-admin-2
bounds-marks-admin-2 c = mark_there c.args.order.now c.args.users.now c.args.marks.now c.args.admin c.requires.admin c.requires.marks

-- the administrator's mark has one hit more
pub is_missed-answer-requires : goal.is_missed-answer-requires
is_missed-answer-requires c =
    let marks = c.args.marks.now in
    let old = c.index-marks-admin.result in
    let within : c.args.admin < length marks
    = mark_there c.args.order.now c.args.users.now marks c.args.admin c.requires.admin c.requires.marks in
    let at : slice_get marks c.args.admin ≡ Some old = get_at marks c.args.admin old within ∙ ap Some (sym c.index-marks-admin.is) in
    rw (c.requires.order, c.put_admin.ensures.needs)
    (marks_put c.args.order.now (needs_wanted c.args.users.now) marks c.args.admin c.args.hit.now old c.and_hit.result c.requires.marks at c.and_hit.ensures)

pub bounds-marks-admin-3 : goal.bounds-marks-admin-3
bounds-marks-admin-3 c =
    let long = length_set c.args.marks.now c.args.admin c.and_hit.result in
    let within = mark_there c.args.order.now c.args.users.now c.args.marks.now c.args.admin c.requires.admin c.requires.marks in
    omega (arith, long, within)

-- the mark is written back
pub returns-clause-marks : goal.returns-clause-marks
returns-clause-marks c =
    let marks = c.args.marks.now in
    let old = c.index-marks-admin.result in
    let within : c.args.admin < length marks
    = mark_there c.args.order.now c.args.users.now marks c.args.admin c.requires.admin c.requires.marks in
    let at : slice_get marks c.args.admin ≡ Some old = get_at marks c.args.admin old within ∙ ap Some (sym c.index-marks-admin.is) in
    set_twice marks c.args.admin c.and_hit.result old ∙ set_itself marks c.args.admin old at
