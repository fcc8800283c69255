use Rattle.std.proofs.Common.{ℕ, ◌≡◌, ◌<◌, Some}
use Rattle.std.specs.Prelude.{slice_get}
use Rattle.arbac_policy.specs.declared.rule.CanAssign.{CanAssign}
use Rattle.arbac_policy.specs.Rules.{IsKnownAssign}
use Rattle.arbac_policy.proofs.policy.are_known_assigns.Given as goal

abbrev pub invariant-loop-rule : goal.invariant-loop-rule
invariant-loop-rule l = (k : ℕ) (rule : CanAssign) → k < l.rule-index → slice_get l.rules k ≡ Some rule → IsKnownAssign l.count rule
