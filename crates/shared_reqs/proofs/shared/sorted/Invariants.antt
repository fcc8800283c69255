use Rattle.shared_reqs.specs.Shared.{marked_by, marked_of}
use Rattle.shared_reqs.proofs.SortedLemmas.{AreSortedFrom}
use Rattle.shared_reqs.proofs.shared.sorted.Given as goal

abbrev pub invariant-loop-at : goal.invariant-loop-at
invariant-loop-at l = AreSortedFrom (marked_by l.users) l.at (marked_of l.list.items)
