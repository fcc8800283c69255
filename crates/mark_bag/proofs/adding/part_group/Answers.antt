use Rattle.std.proofs.Common.{refl}
use Rattle.mark_bag.specs.Index.{AreCommons}
use Rattle.mark_bag.proofs.OneLemmas.{item_read}
use Rattle.mark_bag.proofs.NodeLemmas.{same_regrouped}
use Rattle.mark_bag.proofs.GroupLemmas.{groups_regrouped}
use Rattle.mark_bag.proofs.adding.part_group.Goals as goal

pub returns-clause-groups : goal.returns-clause-groups
returns-clause-groups g c =
    let group = c.index.result.now in
    let here = item_read c.args.groups.now.items c.args.at group c.requires.place c.index.ensures in
    let own : AreCommons group.parts.items c.deref-2.result.now = rw (c.deref-2.ensures.value, ← c.deref.ensures.value) c.in_ok-own.ensures in
    groups_regrouped g.M.Mark.within g.met.M.Mark.through c.args.marks.now c.args.groups.now.items c.part_at.new.nodes.items c.args.at group
    c.deref-2.result.now here own (c.part_at.ensures.regrouped group here) c.requires.groups

pub returns-clause-same : goal.returns-clause-same
returns-clause-same g c =
    let group = c.index.result.now in
    let here = item_read c.args.groups.now.items c.args.at group c.requires.place c.index.ensures in
    same_regrouped g.M.Mark.within group.parts.items c.deref-2.result.now c.args.groups.now.items c.part_at.new.nodes.items c.args.at group here refl
    (c.part_at.ensures.regrouped group here)
