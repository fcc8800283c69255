use Rattle.std.proofs.Common.{ℕ, ◌≡◌, ◌<◌, ◌≤◌, length, None}
use Rattle.hall_match.specs.Holding.{given_at, IsPartialMatching}
use Rattle.hall_match.specs.Rows.{lists}
use Rattle.hall_match.specs.Settling.{IsGiven}
use Rattle.hall_match.proofs.outcome.settle_all.Given as goal

abbrev pub invariant-loop-item : goal.invariant-loop-item
invariant-loop-item l = record {
  whole : length l.held.given.items ≡ l.left;
  places : length l.held.used.items ≡ length l.capacities;
  held : IsPartialMatching l.capacities (lists l.rows) l.held.given.items;
  given : (item : ℕ) → l.item ≤ item → item < l.left → IsGiven l.held.given.items item;
  none : (item : ℕ) → item < l.item → given_at l.held.given.items item ≡ None;
}
