use Rattle.std.proofs.Common.{ℕ, ◌≡◌, ◌<◌, Some}
use Rattle.std.specs.Prelude.{slice_get}
use Rattle.arbac_policy.specs.declared.rule.CanRevoke.{CanRevoke}
use Rattle.arbac_policy.specs.Rules.{IsKnownRevoke}
use Rattle.arbac_policy.proofs.policy.are_known_revokes.Given as goal

abbrev pub invariant-loop-rule : goal.invariant-loop-rule
invariant-loop-rule l = (k : ℕ) (rule : CanRevoke) → k < l.rule-index → slice_get l.rules k ≡ Some rule → IsKnownRevoke l.count rule
