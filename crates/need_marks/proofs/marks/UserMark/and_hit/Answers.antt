use Rattle.need_marks.proofs.AimLemmas.{mark_more}
use Rattle.need_marks.proofs.marks.UserMark.and_hit.Goals as goal

pub returns : goal.returns
returns c = λ need is.
    rw c.join.ensures (mark_more c.args.order.now need c.args.self.now c.args.hit.now c.aims_of.result is (rw c.less.ensures at c.aims_of.ensures))
