use Rattle.std.proofs.Common.{ℕ, ◌<◌, length, get_or}
use Rattle.hall_match.proofs.tests.are_edges.Given as goal

abbrev pub invariant-loop-item : goal.invariant-loop-item
invariant-loop-item l = (k : ℕ) (d : ℕ × ℕ) → k < l.item-index → ((get_or l.edges k d).0 < l.left) ×
    ((get_or l.edges k d).1 < length l.capacities)
