use Rattle.mark_bag.proofs.FindLemmas.{HoldBefore, HasNoneIn}
use Rattle.mark_bag.proofs.finding.find_in_leaves.Given as goal

abbrev pub invariant-loop-leaf : goal.invariant-loop-leaf
invariant-loop-leaf g l = HoldBefore (HasNoneIn (g.Q.Query.fits l.query) (g.T.Accepts.accepts l.test) l.marks) l.leaves l.leaf-index
