use Rattle.std.proofs.Common.{◌≡◌}
use Rattle.mark_bag.proofs.tests.filled.Given as goal

abbrev pub invariant-loop : goal.invariant-loop
invariant-loop l = l.bag ≡ l.marks.items
