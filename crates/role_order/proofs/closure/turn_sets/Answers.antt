use Rattle.role_order.proofs.ClosureLemmas.{turned_more}
use Rattle.role_order.proofs.closure.turn_sets.Goals as goal

-- the set of one role more
pub loop-senior-preserved : goal.loop-senior-preserved
loop-senior-preserved c = rw c.in_ok-push.ensures.items
    (turned_more c.args.above.now c.loop-senior.senior c.loop-senior.below.items c.juniors_in.result c.loop-senior.invariant
    c.juniors_in.ensures.rises c.juniors_in.ensures.each)
