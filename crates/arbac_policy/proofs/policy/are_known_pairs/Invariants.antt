use Rattle.std.proofs.Common.{ℕ, ◌≡◌, ◌<◌, Some}
use Rattle.std.specs.Prelude.{slice_get}
use Rattle.arbac_policy.specs.Rules.{IsKnownPair}
use Rattle.arbac_policy.proofs.policy.are_known_pairs.Given as goal

abbrev pub invariant-loop-pair : goal.invariant-loop-pair
invariant-loop-pair l = (k : ℕ) (pair : ℕ × ℕ) → k < l.pair-index → slice_get l.pairs k ≡ Some pair → IsKnownPair l.count pair
