use Rattle.std.proofs.Common.{◌≡◌, ◌∙◌, sym}
use Rattle.std.specs.Prelude.{slice_get, Some}
use Rattle.cert_check.proofs.BookLemmas.{item_there}
use Rattle.cert_check.proofs.RowLemmas.{row_with, row_without, row_whole}
use Rattle.cert_check.proofs.cover_rows.row_of.Goals.{then-covers_user, else-covers_user}
use Rattle.cert_check.proofs.cover_rows.row_of.Goals as goal

-- one of the others more has its bit, or hasn't
pub loop-place-preserved : goal.loop-place-preserved
loop-place-preserved c =
    let user = c.args.user.now in
    let others = c.args.others.now in
    let at = c.loop-place.place in
    let row = c.loop-place.row in
    let other = c.index-others-place.result in
    let here : slice_get others at ≡ Some other = item_there others at other c.loop-place-test.true c.index-others-place.is in
    elim c.if-covers_user.branch [
      | then-covers_user w ↦ rw (w.row-is, w.bit-row.ensures)
          (row_with user others row at other here (sym c.covers_user.ensures.test ∙ w.if-covers_user.true) c.loop-place.invariant)
      | else-covers_user w ↦ rw w.row-is
          (row_without user others row at other here (sym c.covers_user.ensures.test ∙ w.if-covers_user.false) c.loop-place.invariant)
    ]

pub returns : goal.returns
returns c = row_whole c.args.user.now c.args.others.now c.loop-place.row c.loop-place.place c.loop-place-test.false c.loop-place.invariant
