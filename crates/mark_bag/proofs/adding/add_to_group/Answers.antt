use Rattle.mark_bag.proofs.NodeLemmas.{on_ok_both, on_err_both}
use Rattle.mark_bag.proofs.GroupLemmas.{group_more, group_same}
use Rattle.mark_bag.proofs.adding.add_to_group.Goals as goal

pub returns-clause-added : goal.returns-clause-added
returns-clause-added g c =
    let old = c.args.group.now in
    on_ok_both c.add_to_leaves.result
    (λ leaves more. group_more g.M.Mark.within g.met.M.Mark.through c.args.marks.now old
    (record old { common = c.common-group.result; parts = c.add_to_leaves.new.leaves }) c.args.item c.args.mark.now c.requires.group
    c.common-group.ensures.one c.common-group.ensures.other c.requires.next leaves more)
    c.add_to_leaves.ensures.added c.add_to_leaves.ensures.more

pub returns-clause-kept : goal.returns-clause-kept
returns-clause-kept g c =
    let old = c.args.group.now in
    on_err_both c.add_to_leaves.result
    (λ leaves same. group_same g.M.Mark.within g.met.M.Mark.through c.args.marks.now old
    (record old { common = c.common-group.result; parts = c.add_to_leaves.new.leaves }) c.requires.group c.common-group.ensures.one leaves same)
    c.add_to_leaves.ensures.kept c.add_to_leaves.ensures.same
