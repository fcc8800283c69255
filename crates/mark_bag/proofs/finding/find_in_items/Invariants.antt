use Rattle.mark_bag.proofs.FindLemmas.{HoldBefore, IsNone}
use Rattle.mark_bag.proofs.finding.find_in_items.Given as goal

abbrev pub invariant-loop-item : goal.invariant-loop-item
invariant-loop-item g l = HoldBefore (IsNone (g.Q.Query.fits l.query) (g.T.Accepts.accepts l.test) l.marks) l.items l.item-index
