use Rattle.arbac_laws.specs.Views.{need_of}
use Rattle.cert_check.proofs.PickLemmas.{marks_set}
use Rattle.cert_check.proofs.picks.marks_before.Goals as goal

-- the target's mark is exchanged
pub returns : goal.returns
returns c = λ needs h.
    rw (c.in_ok-extend_from_slice.ensures.items, c.in_ok-list.ensures.items)
    (marks_set c.args.order.now needs c.args.marks.now c.args.target (need_of c.args.before.now) c.of.result h (rw c.deref.ensures.value at c.of.ensures))
