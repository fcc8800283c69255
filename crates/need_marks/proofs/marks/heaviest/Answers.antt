use Rattle.std.proofs.Common.{◌≡◌, ◌∙◌, ap, sym, Some, inr}
use Rattle.std.specs.Prelude.{slice_get}
use Rattle.list_words.proofs.GetLemmas.{get_at}
use Rattle.need_marks.proofs.marks.heaviest.Goals.{then-weight, else-weight}
use Rattle.need_marks.proofs.marks.heaviest.Goals as goal

-- it is the mark at the place, or as before
pub loop-mark-preserved : goal.loop-mark-preserved
loop-mark-preserved c =
    let marks = c.args.marks.now in
    let i = c.loop-mark.mark-index in
    let at : slice_get marks i ≡ Some c.mark-item.result = get_at marks i _ c.loop-mark-test.true ∙ ap Some (sym c.mark-item.is) in
    elim c.if-weight.branch [
      | then-weight w ↦ rw w.most-is (inr (i, at))
      | else-weight w ↦ rw w.most-is c.loop-mark.invariant
    ]
