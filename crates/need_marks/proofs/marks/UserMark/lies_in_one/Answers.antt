use Rattle.need_marks.proofs.MarkTestLemmas.{lies_by}
use Rattle.need_marks.proofs.marks.UserMark.lies_in_one.Goals as goal

pub returns-else-is_nothing : goal.returns-else-is_nothing
returns-else-is_nothing c =
    lies_by c.args.self.now c.args.others.now c.is_part_of_one.result c.is_nothing.result c.if-is_nothing.false c.is_nothing.ensures c.is_part_of_one.ensures
