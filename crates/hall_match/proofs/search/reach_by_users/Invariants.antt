use Rattle.std.proofs.Common.{◌≡◌}
use Rattle.hall_match.specs.Search.{instance, IsSearch, GoesOn}
use Rattle.hall_match.proofs.WalkLemmas.{WalkedTo, steps_left}
use Rattle.hall_match.proofs.search.reach_by_users.Given as goal

abbrev pub invariant-loop-user : goal.invariant-loop-user
invariant-loop-user l = record {
  item : l.search.item ≡ l.initial.search.item;
  goes_on : GoesOn l.initial.search.seen.items l.search.seen.items l.initial.search.reached.items
      l.search.reached.items;
  search : IsSearch (instance l.capacities l.rows l.held.given.items l.initial.search.item)
      l.search.seen.items l.search.reached.items l.at;
  walk : WalkedTo (instance l.capacities l.rows l.held.given.items l.initial.search.item)
      l.search.seen.items l.place l.user;
}

abbrev pub decreases-loop-user : goal.decreases-loop-user
decreases-loop-user l = steps_left l.user
