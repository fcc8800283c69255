use Rattle.std.proofs.Common.{◌≡◌, ◌<◌, Some, length, slice_index_or, arith}
use Rattle.std.specs.Prelude.{slice_get}
use Rattle.list_words.proofs.GetLemmas.{get_at}
use Rattle.mark_bag.proofs.OneLemmas.{item_read}
use Rattle.mark_bag.proofs.BesideLemmas.{beside_more}
use Rattle.mark_bag.proofs.adding.own_marks.Goals as goal

pub bounds-marks-item : goal.bounds-marks-item
bounds-marks-item g c =
    let at = c.loop-item.item-index in
    let below : at < length c.args.items.now = omega arith in
    c.requires (slice_index_or c.args.items.now at 0) (at, get_at c.args.items.now at 0 below)

pub offset_bounds-marks-item : goal.offset_bounds-marks-item
offset_bounds-marks-item g c = let below = bounds-marks-item g c in omega (arith, below)

pub loop-item-preserved : goal.loop-item-preserved
loop-item-preserved g c =
    let at = c.loop-item.item-index in
    let item = slice_index_or c.args.items.now at 0 in
    let below : at < length c.args.items.now = omega arith in
    let is_item = get_at c.args.items.now at 0 below in
    rw c.in_ok-push.ensures.items
    (beside_more (λ k mark. slice_get c.args.marks.now k ≡ Some mark) c.args.items.now c.loop-item.own.items at item c.index-marks-item.result
    c.loop-item.invariant is_item
    (item_read c.args.marks.now item c.index-marks-item.result (c.requires item (at, is_item)) c.index-marks-item.is))
