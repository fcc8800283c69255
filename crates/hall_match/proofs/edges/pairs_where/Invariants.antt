use Rattle.hall_match.proofs.EdgeLemmas.{HaveItems}
use Rattle.hall_match.proofs.JoinedLemmas.{GoesBelow}
use Rattle.hall_match.proofs.edges.pairs_where.Given as goal

abbrev pub invariant-loop-item : goal.invariant-loop-item
invariant-loop-item g l = HaveItems l.pairs.items l.item (GoesBelow (g.E.Edges.joins l.edges) l.places)
