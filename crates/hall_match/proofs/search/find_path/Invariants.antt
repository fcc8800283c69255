use Rattle.std.proofs.Common.{ℕ, ◌≡◌, ◌<◌, length, get_or}
use Rattle.hall_match.specs.Search.{instance, IsSeen, IsClosed}
use Rattle.hall_match.proofs.search.find_path.Given as goal

abbrev pub invariant-loop-place : goal.invariant-loop-place
invariant-loop-place l = record {
  item : l.search.item ≡ l.item;
  places : length l.search.seen.items ≡ length l.capacities;
  closed : IsClosed (instance l.capacities l.rows l.held.given.items l.item) l.search.seen.items;
  seen : (k : ℕ) → k < l.place-index → IsSeen l.search.seen.items (get_or l.place-items k 0);
}
