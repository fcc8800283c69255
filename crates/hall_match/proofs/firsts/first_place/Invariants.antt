use Rattle.hall_match.specs.Firsts.{HasNoPlace}
use Rattle.hall_match.proofs.firsts.first_place.Given as goal

abbrev pub invariant-loop-place : goal.invariant-loop-place
invariant-loop-place g l = HasNoPlace (g.E.Edges.joins l.edges) l.place l.item
