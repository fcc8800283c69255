use Rattle.std.proofs.Common.{◌-◌, ◌*◌}
use Rattle.role_order.specs.declared.TheConstants.{MOST_ROLES}
use Rattle.rule_prune.specs.Relevant.{AreAmong, LeadsOn, count_of}
use Rattle.rule_prune.specs.Steps.{ByEach}
use Rattle.rule_prune.proofs.StepLemmas.{IsOnWay}
use Rattle.rule_prune.proofs.closing.closed_roles.Given as goal

abbrev pub invariant-loop-more : goal.invariant-loop-more
invariant-loop-more l = IsOnWay AreAmong (ByEach LeadsOn l.links) l.start l.roles

-- there are more roles each time, and at most so many
abbrev pub decreases-loop-more : goal.decreases-loop-more
decreases-loop-more l = 2 * MOST_ROLES - count_of l.roles
