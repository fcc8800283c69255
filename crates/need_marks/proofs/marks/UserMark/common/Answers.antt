use Rattle.need_marks.proofs.MarkTestLemmas.{common_first, common_second}
use Rattle.need_marks.proofs.marks.UserMark.common.Goals as goal

pub returns-clause-one : goal.returns-clause-one
returns-clause-one c = rw (c.common.ensures.common, c.common-2.ensures.common) (record {
  aims = common_first c.args.self.now.aims c.args.other.now.aims;
  lacks = common_first c.args.self.now.lacks c.args.other.now.lacks;
})

pub returns-clause-other : goal.returns-clause-other
returns-clause-other c = rw (c.common.ensures.common, c.common-2.ensures.common) (record {
  aims = common_second c.args.self.now.aims c.args.other.now.aims;
  lacks = common_second c.args.self.now.lacks c.args.other.now.lacks;
})
