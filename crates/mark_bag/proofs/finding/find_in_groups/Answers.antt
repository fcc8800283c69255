use Rattle.std.proofs.Common.{◌≡◌, true, false, Some, arith, sym, ◌∙◌, subst}
use Rattle.std.specs.Prelude.{slice_get}
use Rattle.list_words.specs.Lists.{IsOneOf}
use Rattle.list_words.proofs.GetLemmas.{below_more}
use Rattle.mark_bag.specs.Nodes.{IsPartOf}
use Rattle.mark_bag.proofs.OneLemmas.{item_read}
use Rattle.mark_bag.proofs.FindLemmas.{HasNoneBelow, none_in_groups, unfit_group}
use Rattle.mark_bag.proofs.finding.find_in_groups.Goals.{then-fits+in_default, else-fits}
use Rattle.mark_bag.proofs.finding.find_in_groups.Goals as goal

pub find_in_leaves-requires : goal.find_in_leaves-requires
find_in_leaves-requires g c leaf o =
    let group = c.group-item.result in
    let at = item_read c.args.groups.now c.loop-group.group-index group (omega arith) c.group-item.is in
    (c.requires group (c.loop-group.group-index, at)).leaves leaf (subst (λ list. IsOneOf list leaf) c.deref.ensures.value o)

-- nothing was found in the group, or its mark doesn't fit
pub loop-group-preserved : goal.loop-group-preserved
loop-group-preserved g c =
    let group = c.group-item.result in
    let fits = g.Q.Query.fits c.args.query.now in
    let accepts = g.T.Accepts.accepts c.args.test.now in
    let at : slice_get c.args.groups.now c.loop-group.group-index ≡ Some group =
    item_read c.args.groups.now c.loop-group.group-index group (omega arith) c.group-item.is in
    below_more (HasNoneBelow fits accepts c.args.marks.now) c.args.groups.now c.loop-group.group-index group c.loop-group.invariant at
    (elim c.if-fits.branch [
      | then-fits+in_default w ↦ λ item o. w.in_default.ensures.none item (subst (λ list. IsPartOf list item) (sym w.deref.ensures.value) o)
      | else-fits w ↦ unfit_group fits accepts c.args.marks.now g.M.Mark.within (g.met.Q.Query.falls c.args.query.now) group
          (c.requires group (c.loop-group.group-index, at))
          (λ fit. let no : true ≡ false = sym (c.may_fit-fits.ensures.1 fit) ∙ w.if-fits.false in cc)
    ])

pub returns-clause-none : goal.returns-clause-none
returns-clause-none g c = none_in_groups (g.Q.Query.fits c.args.query.now) (g.T.Accepts.accepts c.args.test.now) c.args.marks.now c.args.groups.now
    c.loop-group.group-index (omega arith) c.loop-group.invariant
