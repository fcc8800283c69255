use Rattle.std.proofs.Common.{inr}
use Rattle.mark_bag.proofs.adding.begin.Goals as goal

pub returns-clause-begun : goal.returns-clause-begun
returns-clause-begun g c = inr (c.in_ok-node.node, c.in_ok-node.ensures.parts, c.in_ok-push.ensures.items)
