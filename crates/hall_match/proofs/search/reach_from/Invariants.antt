use Rattle.std.proofs.Common.{◌≡◌, ◌+◌, ◌-◌, length, not, count_by}
use Rattle.hall_match.specs.Search.{instance, IsSearch, GoesOn}
use Rattle.hall_match.proofs.search.reach_from.Given as goal

abbrev pub invariant-loop-at : goal.invariant-loop-at
invariant-loop-at l = record {
  item : l.search.item ≡ l.initial.search.item;
  goes_on : GoesOn l.initial.search.seen.items l.search.seen.items l.initial.search.reached.items
      l.search.reached.items;
  search : IsSearch (instance l.capacities l.rows l.held.given.items l.initial.search.item)
      l.search.seen.items l.search.reached.items l.at;
}

abbrev pub decreases-loop-at : goal.decreases-loop-at
decreases-loop-at l = (count_by not l.search.seen.items + length l.search.reached.items) - l.at
