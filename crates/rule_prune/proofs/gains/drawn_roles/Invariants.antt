use Rattle.std.proofs.Common.{[]}
use Rattle.role_order.specs.Roles.{IsWithin}
use Rattle.rule_prune.specs.Gains.{Brings}
use Rattle.rule_prune.specs.Steps.{IsStep}
use Rattle.rule_prune.proofs.StepLemmas.{ByFirst}
use Rattle.rule_prune.proofs.gains.drawn_roles.Given as goal

-- what the profiles so far bring
abbrev pub invariant-loop-profile : goal.invariant-loop-profile
invariant-loop-profile l = IsStep IsWithin (ByFirst Brings l.profiles l.profile-index) [] l.set
