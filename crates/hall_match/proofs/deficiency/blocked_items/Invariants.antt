use Rattle.hall_match.proofs.BlockingLemmas.{BlockedTo}
use Rattle.hall_match.proofs.deficiency.blocked_items.Given as goal

abbrev pub invariant-loop-i : goal.invariant-loop-i
invariant-loop-i l = BlockedTo l.given l.seen l.item l.i l.items.items
