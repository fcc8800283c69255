use Rattle.std.proofs.Common.{◌≡◌, true, false, Some, arith, sym, ◌∙◌, subst}
use Rattle.std.specs.Prelude.{slice_get}
use Rattle.list_words.specs.Lists.{IsOneOf}
use Rattle.list_words.proofs.GetLemmas.{get_below, below_more}
use Rattle.mark_bag.proofs.OneLemmas.{item_read}
use Rattle.mark_bag.proofs.FindLemmas.{HasNoneIn, none_in_leaves, unfit_leaf}
use Rattle.mark_bag.proofs.finding.find_in_leaves.Goals.{then-fits+in_default, else-fits}
use Rattle.mark_bag.proofs.finding.find_in_leaves.Goals as goal

pub find_in_items-requires : goal.find_in_items-requires
find_in_items-requires g c item o =
    let leaf = c.leaf-item.result in
    let at = item_read c.args.leaves.now c.loop-leaf.leaf-index leaf (omega arith) c.leaf-item.is in
    let lies = c.requires leaf (c.loop-leaf.leaf-index, at) item (subst (λ list. IsOneOf list item) c.deref.ensures.value o) in
    get_below c.args.marks.now item lies.0 lies.1

-- nothing was found in the leaf, or its mark doesn't fit
pub loop-leaf-preserved : goal.loop-leaf-preserved
loop-leaf-preserved g c =
    let leaf = c.leaf-item.result in
    let fits = g.Q.Query.fits c.args.query.now in
    let accepts = g.T.Accepts.accepts c.args.test.now in
    let at : slice_get c.args.leaves.now c.loop-leaf.leaf-index ≡ Some leaf =
    item_read c.args.leaves.now c.loop-leaf.leaf-index leaf (omega arith) c.leaf-item.is in
    below_more (HasNoneIn fits accepts c.args.marks.now) c.args.leaves.now c.loop-leaf.leaf-index leaf c.loop-leaf.invariant at
    (elim c.if-fits.branch [
      | then-fits+in_default w ↦ λ item o. w.in_default.ensures.none item (subst (λ list. IsOneOf list item) (sym w.deref.ensures.value) o)
      | else-fits w ↦ unfit_leaf fits accepts c.args.marks.now g.M.Mark.within (g.met.Q.Query.falls c.args.query.now) leaf
          (c.requires leaf (c.loop-leaf.leaf-index, at))
          (λ fit. let no : true ≡ false = sym (c.may_fit-fits.ensures.1 fit) ∙ w.if-fits.false in cc)
    ])

pub returns-clause-none : goal.returns-clause-none
returns-clause-none g c = none_in_leaves (g.Q.Query.fits c.args.query.now) (g.T.Accepts.accepts c.args.test.now) c.args.marks.now c.args.leaves.now
    c.loop-leaf.leaf-index (omega arith) c.loop-leaf.invariant
