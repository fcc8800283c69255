use Rattle.std.proofs.Common.{arith, refl}
use Rattle.list_words.proofs.EachLemmas.{each_of}
use Rattle.list_words.proofs.GetLemmas.{get_within}
use Rattle.arbac_policy.specs.Rules.{IsKnownRevoke}
use Rattle.arbac_policy.proofs.policy.are_known_revokes.Goals as goal

pub returns : goal.returns
returns c = (
  λ h. each_of (IsKnownRevoke c.args.count) c.args.rules.now
      (λ k rule e. c.loop-rule.invariant k rule (omega (arith, (get_within c.args.rules.now k rule e).0)) e),
  λ h. refl,
)
