use Rattle.role_order.specs.Roles.{IsWithin}
use Rattle.rule_prune.specs.Gains.{Gives}
use Rattle.rule_prune.specs.Steps.{IsStep}
use Rattle.rule_prune.proofs.StepLemmas.{ByFirst}
use Rattle.rule_prune.proofs.gains.with_all_given.Given as goal

-- what the rules so far give
abbrev pub invariant-loop-rule : goal.invariant-loop-rule
invariant-loop-rule l = IsStep IsWithin (ByFirst (Gives l.policy.order) l.policy.assign l.rule-index) l.set l.wider
