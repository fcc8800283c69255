use Rattle.need_marks.proofs.MarkLemmas.{need_asked}
use Rattle.need_marks.proofs.marks.NeedQuery.of.Goals as goal

pub returns : goal.returns
returns c = λ order needs are.
    need_asked order needs (record { all = c.joined.result; each = c.args.marks }) are
    (record { aims = c.joined.ensures.aims; lacks = c.joined.ensures.lacks })
