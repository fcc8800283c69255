use Rattle.std.proofs.Common.{ℕ, ◌≡◌, ◌<◌, get_or}
use Rattle.hall_match.specs.Search.{instance, IsSeen, IsSearch, GoesOn}
use Rattle.hall_match.proofs.search.reach_row.Given as goal

abbrev pub invariant-loop-place : goal.invariant-loop-place
invariant-loop-place l = record {
  item : l.search.item ≡ l.initial.search.item;
  goes_on : GoesOn l.initial.search.seen.items l.search.seen.items l.initial.search.reached.items
      l.search.reached.items;
  search : IsSearch (instance l.capacities l.rows l.held.given.items l.initial.search.item)
      l.search.seen.items l.search.reached.items l.by.from;
  seen : (k : ℕ) → k < l.place-index → IsSeen l.search.seen.items (get_or l.place-items k 0);
}
