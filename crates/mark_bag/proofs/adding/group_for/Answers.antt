use Rattle.mark_bag.proofs.NodeLemmas.{same_through, same_begun}
use Rattle.mark_bag.proofs.GroupLemmas.{groups_begun}
use Rattle.mark_bag.proofs.adding.group_for.Goals as goal

pub returns-in_err-begin-clause-groups : goal.returns-in_err-begin-clause-groups
returns-in_err-begin-clause-groups g c =
    groups_begun g.M.Mark.within g.met.M.Mark.through c.args.marks.now c.args.groups.now.items c.begin.new.nodes.items c.begin.ensures.begun c.requires

pub returns-in_err-begin-clause-same : goal.returns-in_err-begin-clause-same
returns-in_err-begin-clause-same g c = same_begun c.args.groups.now.items c.begin.new.nodes.items c.begin.ensures.begun

pub returns-then-not-is_full-clause-groups : goal.returns-then-not-is_full-clause-groups
returns-then-not-is_full-clause-groups g c =
    groups_begun g.M.Mark.within g.met.M.Mark.through c.args.marks.now c.args.groups.now.items c.begin.new.nodes.items c.begin.ensures.begun c.requires

pub returns-then-not-is_full-clause-same : goal.returns-then-not-is_full-clause-same
returns-then-not-is_full-clause-same g c = same_begun c.args.groups.now.items c.begin.new.nodes.items c.begin.ensures.begun

pub part_group-requires-clause-groups : goal.part_group-requires-clause-groups
part_group-requires-clause-groups g c =
    groups_begun g.M.Mark.within g.met.M.Mark.through c.args.marks.now c.args.groups.now.items c.begin.new.nodes.items c.begin.ensures.begun c.requires

pub returns-in_err-part_group-clause-same : goal.returns-in_err-part_group-clause-same
returns-in_err-part_group-clause-same g c = same_through c.args.groups.now.items c.begin.new.nodes.items c.part_group.new.groups.items
    (same_begun c.args.groups.now.items c.begin.new.nodes.items c.begin.ensures.begun) c.part_group.ensures.same

pub returns-clause-same : goal.returns-clause-same
returns-clause-same g c = same_through c.args.groups.now.items c.begin.new.nodes.items c.part_group.new.groups.items
    (same_begun c.args.groups.now.items c.begin.new.nodes.items c.begin.ensures.begun) c.part_group.ensures.same
