use Rattle.std.proofs.Common.{◌≡◌, ◌<◌, true, false, length, slice_index_or, arith, sym, ◌∙◌, subst}
use Rattle.list_words.proofs.GetLemmas.{get_at, below_more}
use Rattle.mark_bag.proofs.OneLemmas.{read_at}
use Rattle.mark_bag.proofs.FindLemmas.{IsNone, hold_all}
use Rattle.mark_bag.proofs.finding.find_in_items.Goals.{else-may_fit-via-then-may_fit+else-accepts, else-may_fit-via-else-may_fit}
use Rattle.mark_bag.proofs.finding.find_in_items.Goals as goal

pub bounds-marks-item : goal.bounds-marks-item
bounds-marks-item g c =
    let at = c.loop-item.item-index in
    let below : at < length c.args.items.now = omega arith in
    c.requires (slice_index_or c.args.items.now at 0) (at, get_at c.args.items.now at 0 below)

pub offset_bounds-marks-item : goal.offset_bounds-marks-item
offset_bounds-marks-item g c = let below = bounds-marks-item g c in omega (arith, below)

pub returns-then-accepts-clause-found : goal.returns-then-accepts-clause-found
returns-then-accepts-clause-found g c =
    let at = c.loop-item.item-index in
    let below : at < length c.args.items.now = omega arith in
    (c.requires (slice_index_or c.args.items.now at 0) (at, get_at c.args.items.now at 0 below), c.accepts.ensures.0 c.if-accepts.true)

-- the item's mark doesn't fit, or the test doesn't accept it
pub loop-item-preserved : goal.loop-item-preserved
loop-item-preserved g c =
    let at = c.loop-item.item-index in
    let item = slice_index_or c.args.items.now at 0 in
    let fits = g.Q.Query.fits c.args.query.now in
    let below : at < length c.args.items.now = omega arith in
    below_more (IsNone fits (g.T.Accepts.accepts c.args.test.now) c.args.marks.now) c.args.items.now at item c.loop-item.invariant
    (get_at c.args.items.now at 0 below)
    (λ (mark, is_mark, fit, accepted).
    elim c.else-may_fit.branch [
      | else-may_fit-via-then-may_fit+else-accepts w ↦ let no : true ≡ false = sym (w.accepts.ensures.1 accepted) ∙ w.if-accepts.false in cc
      | else-may_fit-via-else-may_fit w ↦
          let same : mark ≡ c.index-marks-item.result = read_at c.args.marks.now item mark c.index-marks-item.result is_mark c.index-marks-item.is in
          let no : true ≡ false = sym (c.may_fit.ensures.1 (subst fits same fit)) ∙ w.if-may_fit.false in cc
    ])

pub returns-clause-none : goal.returns-clause-none
returns-clause-none g c = hold_all (IsNone (g.Q.Query.fits c.args.query.now) (g.T.Accepts.accepts c.args.test.now) c.args.marks.now) c.args.items.now
    c.loop-item.item-index (omega arith) c.loop-item.invariant
