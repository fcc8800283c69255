use Rattle.std.proofs.Common.{length, refl}
use Rattle.need_marks.proofs.MarkLemmas.{need_marked}
use Rattle.need_marks.proofs.marks.NeedMark.of.Goals as goal

pub returns : goal.returns
returns c = λ order needs are.
    need_marked order needs c.args.marks.now (record { all = c.joined.result; heaviest = c.heaviest.result; users = length c.args.marks.now }) are
    (record { aims = c.joined.ensures.aims; lacks = c.joined.ensures.lacks }) c.heaviest.ensures refl
