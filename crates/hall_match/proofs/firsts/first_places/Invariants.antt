use Rattle.hall_match.specs.Firsts.{AreFirstPlaces}
use Rattle.hall_match.proofs.firsts.first_places.Given as goal

abbrev pub invariant-loop-item : goal.invariant-loop-item
invariant-loop-item g l = AreFirstPlaces (g.E.Edges.joins l.edges) l.places l.item l.list.items
