use Rattle.std.proofs.Common.{◌≡◌, length}
use Rattle.hall_match.specs.Search.{instance, IsLeastPath}
use Rattle.hall_match.proofs.MoveLemmas.{Moving, moves_left}
use Rattle.hall_match.proofs.settling.settle.Given as goal

abbrev pub invariant-loop-here : goal.invariant-loop-here
invariant-loop-here l = record {
  places : length l.held.used.items ≡ length l.capacities;
  found : IsLeastPath (instance l.capacities l.rows l.initial.held.given.items l.item) l.path.items;
  moving : Moving (instance l.capacities l.rows l.initial.held.given.items l.item) l.path.items
      l.held.given.items l.here;
}

abbrev pub decreases-loop-here : goal.decreases-loop-here
decreases-loop-here l = moves_left l.here.by
