use Rattle.std.proofs.Common.{ℕ}
use Rattle.std.specs.Prelude.{◌↔◌}
use Rattle.role_order.specs.Roles.{IsIn}
use Rattle.rule_prune.proofs.RelevantLemmas.{IsGivenBefore}
use Rattle.rule_prune.proofs.links.givable_roles.Given as goal

-- the roles in the ranges of the rules so far
abbrev pub invariant-loop-rule : goal.invariant-loop-rule
invariant-loop-rule l = (role : ℕ) → IsIn l.givable role ↔ IsGivenBefore l.policy.order l.policy.assign l.rule-index role
