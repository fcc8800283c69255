use Rattle.need_marks.proofs.MarkTestLemmas.{nothing_by, something_by}
use Rattle.need_marks.proofs.marks.UserMark.is_nothing.Goals as goal

pub returns-then-is_empty : goal.returns-then-is_empty
returns-then-is_empty c =
    nothing_by c.args.self.now c.is_empty-then-is_empty.result (c.is_empty.ensures.0 c.if-is_empty.true) c.is_empty-then-is_empty.ensures

pub returns-else-is_empty : goal.returns-else-is_empty
returns-else-is_empty c = something_by c.args.self.now c.is_empty.result c.if-is_empty.false c.is_empty.ensures
