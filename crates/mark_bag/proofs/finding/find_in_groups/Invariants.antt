use Rattle.mark_bag.proofs.FindLemmas.{HoldBefore, HasNoneBelow}
use Rattle.mark_bag.proofs.finding.find_in_groups.Given as goal

abbrev pub invariant-loop-group : goal.invariant-loop-group
invariant-loop-group g l = HoldBefore (HasNoneBelow (g.Q.Query.fits l.query) (g.T.Accepts.accepts l.test) l.marks) l.groups l.group-index
