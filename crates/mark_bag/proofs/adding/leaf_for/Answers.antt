use Rattle.mark_bag.specs.Index.{LiesUnder}
use Rattle.mark_bag.proofs.NodeLemmas.{same_through, same_begun, over_begun}
use Rattle.mark_bag.proofs.adding.leaf_for.Goals as goal

pub returns-in_err-begin-clause-same : goal.returns-in_err-begin-clause-same
returns-in_err-begin-clause-same g c = same_begun c.args.leaves.now.items c.begin.new.nodes.items c.begin.ensures.begun

pub returns-then-not-is_full-clause-leaves : goal.returns-then-not-is_full-clause-leaves
returns-then-not-is_full-clause-leaves g c =
    over_begun (LiesUnder g.M.Mark.within c.args.marks.now) c.args.leaves.now.items c.begin.new.nodes.items c.begin.ensures.begun c.requires

pub returns-then-not-is_full-clause-same : goal.returns-then-not-is_full-clause-same
returns-then-not-is_full-clause-same g c = same_begun c.args.leaves.now.items c.begin.new.nodes.items c.begin.ensures.begun

pub part_leaf-requires-clause-leaves : goal.part_leaf-requires-clause-leaves
part_leaf-requires-clause-leaves g c =
    over_begun (LiesUnder g.M.Mark.within c.args.marks.now) c.args.leaves.now.items c.begin.new.nodes.items c.begin.ensures.begun c.requires

pub returns-in_err-part_leaf-clause-same : goal.returns-in_err-part_leaf-clause-same
returns-in_err-part_leaf-clause-same g c = same_through c.args.leaves.now.items c.begin.new.nodes.items c.part_leaf.new.leaves.items
    (same_begun c.args.leaves.now.items c.begin.new.nodes.items c.begin.ensures.begun) c.part_leaf.ensures.same

pub returns-clause-same : goal.returns-clause-same
returns-clause-same g c = same_through c.args.leaves.now.items c.begin.new.nodes.items c.part_leaf.new.leaves.items
    (same_begun c.args.leaves.now.items c.begin.new.nodes.items c.begin.ensures.begun) c.part_leaf.ensures.same
