use Rattle.std.proofs.Common.{ℕ, ◌≡◌, ◌<◌, Some, length, get_or}
use Rattle.hall_match.specs.Holding.{given_at}
use Rattle.hall_match.proofs.outcome.places_of.Given as goal

abbrev pub invariant-loop-item : goal.invariant-loop-item
invariant-loop-item l = record {
  whole : length l.list.items ≡ l.item;
  places : (k : ℕ) → k < l.item → given_at l.given k ≡ Some (get_or l.list.items k 0);
}
