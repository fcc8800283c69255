use Rattle.need_marks.specs.Marks.{AreUserMarks}
use Rattle.shared_reqs.specs.Shared.{needs_marked}
use Rattle.shared_reqs.proofs.index.mark_of.Goals as goal

-- the marks of the users are its mark's
pub returns : goal.returns
returns c = λ order own.
    let marked : AreUserMarks order (needs_marked c.args.req.now) c.deref.result.now = rw c.deref.ensures.value (c.in_ok-marks.ensures.own order own) in
    c.of.ensures order (needs_marked c.args.req.now) marked
