use Rattle.std.proofs.Common.{◌-◌, length}
use Rattle.role_order.specs.Roles.{IsWithin}
use Rattle.role_order.specs.declared.TheConstants.{MOST_ROLES}
use Rattle.rule_prune.specs.Gains.{GiveAll}
use Rattle.rule_prune.proofs.StepLemmas.{IsOnWay}
use Rattle.rule_prune.proofs.gains.with_gains.Given as goal

abbrev pub invariant-loop-wider : goal.invariant-loop-wider
invariant-loop-wider l = IsOnWay IsWithin (GiveAll l.policy) l.start l.set

-- the set has more roles each time, and at most MOST_ROLES
abbrev pub decreases-loop-wider : goal.decreases-loop-wider
decreases-loop-wider l = MOST_ROLES - length l.set
