use Rattle.std.proofs.Common.{ℕ, ◌≡◌, ◌<◌, List, length}
use Rattle.hall_match.specs.Holding.{IsPartialMatching}
use Rattle.hall_match.specs.Matchings.{IsMatching}
use Rattle.hall_match.specs.Settling.{IsUpTo}
use Rattle.hall_match.specs.Rows.{lists, HaveEdges}
use Rattle.hall_match.specs.Settling.{IsGiven}
use Rattle.hall_match.proofs.outcome.settle_least.Given as goal

abbrev pub invariant-loop-item : goal.invariant-loop-item
invariant-loop-item l = record {
  whole : length l.held.given.items ≡ l.left;
  places : length l.held.used.items ≡ length l.capacities;
  held : IsPartialMatching l.capacities (lists l.rows) l.held.given.items;
  given : (item : ℕ) → item < l.left → IsGiven l.held.given.items item;
  least : (edges : List (ℕ × ℕ)) (other : List ℕ) → HaveEdges (lists l.rows) edges
      → IsMatching l.left l.capacities edges other → IsUpTo l.held.given.items l.item other;
}
