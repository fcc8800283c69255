use Rattle.std.proofs.Common.{◌∙◌, sym}
use Rattle.hall_match.proofs.BlockingLemmas.{blocked_push, blocked_skip}
use Rattle.hall_match.proofs.deficiency.blocked_items.Goals as goal
use Rattle.hall_match.proofs.deficiency.blocked_items.Goals.{then-is_blocked+in_ok-push, else-is_blocked}

pub loop-i-preserved : goal.loop-i-preserved
loop-i-preserved c =
    let old = c.loop-i in
    elim c.if-is_blocked.branch [
      | then-is_blocked+in_ok-push w ↦
          rw (w.items-is, w.in_ok-push.ensures.items)
          (blocked_push c.args.given.now c.args.seen.now c.args.item old.i old.items.items
          c.loop-i-test.true old.invariant c.requires.free
          (sym c.is_blocked.ensures ∙ w.if-is_blocked.true))
      | else-is_blocked w ↦ rw w.items-is (blocked_skip c.args.given.now c.args.seen.now c.args.item
          old.i old.items.items c.loop-i-test.true old.invariant
          (sym c.is_blocked.ensures ∙ w.if-is_blocked.false))
    ]
