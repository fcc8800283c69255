use Rattle.std.proofs.Common.{◌∙◌, ap, sym, arith, Some, refl}
use Rattle.list_words.proofs.EachLemmas.{each_of}
use Rattle.list_words.proofs.GetLemmas.{get_at, get_within, below_more}
use Rattle.arbac_policy.specs.Rules.{IsKnownAssign}
use Rattle.arbac_policy.proofs.policy.are_known_assigns.Goals as goal

pub returns : goal.returns
returns c = (
  λ h. each_of (IsKnownAssign c.args.count) c.args.rules.now
      (λ k rule e. c.loop-rule.invariant k rule (omega (arith, (get_within c.args.rules.now k rule e).0)) e),
  λ h. refl,
)

pub loop-rule-preserved : goal.loop-rule-preserved
loop-rule-preserved c = below_more (IsKnownAssign c.args.count) c.args.rules.now c.loop-rule.rule-index c.rule-item.result c.loop-rule.invariant
    (get_at c.args.rules.now c.loop-rule.rule-index c.rule-item.result c.loop-rule-test.true ∙ ap Some (sym c.rule-item.is))
    (c.is_known_assign.ensures.0 c.if-not-is_known_assign.false)
