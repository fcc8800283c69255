use Rattle.hall_match.proofs.EdgeLemmas.{HaveUpTo}
use Rattle.hall_match.proofs.edges.put_pairs.Given as goal

abbrev pub invariant-loop-place : goal.invariant-loop-place
invariant-loop-place g l = HaveUpTo l.initial.pairs.items l.pairs.items l.item l.place (g.E.Edges.joins l.edges l.item)
