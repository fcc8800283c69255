use Rattle.std.proofs.Common.{◌≡◌}
use Rattle.role_order.specs.Reach.{count_up}
use Rattle.rule_prune.proofs.outside.all_roles.Given as goal

abbrev pub invariant-loop-role : goal.invariant-loop-role
invariant-loop-role l = l.all ≡ count_up 0 l.role
