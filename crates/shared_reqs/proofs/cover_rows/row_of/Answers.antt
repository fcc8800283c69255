use Rattle.std.proofs.Common.{◌≡◌, ◌∙◌, arith, sym, Some, false, true}
use Rattle.std.specs.Prelude.{slice_get}
use Rattle.shared_reqs.specs.Shared.{needs_shared}
use Rattle.shared_reqs.proofs.RowLemmas.{item_there, need_read, needs_long, row_with, row_without, row_whole}
use Rattle.shared_reqs.proofs.cover_rows.row_of.Goals.{then-covers_user, else-covers_user}
use Rattle.shared_reqs.proofs.cover_rows.row_of.Goals as goal

-- one of the others more has its bit, or hasn't
pub loop-place-preserved : goal.loop-place-preserved
loop-place-preserved c =
    let user = c.args.user.now in
    let others = c.args.others.now in
    let at = c.loop-place.place in
    let row = c.loop-place.row in
    let other = c.user.result.now in
    let here : slice_get (needs_shared others) at ≡ Some other =
    need_read others at c.index-others-place.result c.deref.result.now other
    (item_there others at c.index-others-place.result c.loop-place-test.true c.index-others-place.is) c.deref.ensures c.user.ensures.need in
    elim c.if-covers_user.branch [
      | then-covers_user w ↦ rw (w.row-is, w.bit-row.ensures)
          (row_with user (needs_shared others) row at other here (c.covers_user.ensures.0 w.if-covers_user.true) c.loop-place.invariant)
      | else-covers_user w ↦ rw w.row-is
          (row_without user (needs_shared others) row at other here
          (λ covers. let never : false ≡ true = sym w.if-covers_user.false ∙ c.covers_user.ensures.1 covers in cc) c.loop-place.invariant)
    ]

-- all others are gone through
pub returns : goal.returns
returns c =
    let others = c.args.others.now in
    row_whole c.args.user.now (needs_shared others) c.loop-place.row c.loop-place.place
    (let long = needs_long others in omega (arith, long, c.loop-place-test.false)) c.loop-place.invariant
