use Rattle.std.proofs.Common.{ℕ, ◌∙◌, map, ap, ap₂}
use Rattle.arbac_policy.specs.Truth.{has, lacks}
use Rattle.arbac_policy.specs.PlainRules.{plain_rule}
use Rattle.sample_question.specs.Samples.{key, rule, rules}
use Rattle.sample_question.proofs.PairLemmas.{all_made}
use Rattle.sample_question.proofs.RuleLemmas.{rules_at, rules_first, rules_more}
use Rattle.sample_question.proofs.conditions.rules.Goals as goal

pub loop-at-init : goal.loop-at-init
loop-at-init c = rules_first c.args.size _ c.new-rules.ensures.items

pub loop-at-preserved : goal.loop-at-preserved
loop-at-preserved c =
    rw (c.in_ok-push-2.ensures.items, c.in_ok-push.ensures.items)
    (rules_more c.args.size c.loop-at.at c.loop-at.rules.items c.has_rule.result c.lacks_rule.result c.loop-at-test.true
    (c.has_rule.ensures ∙ ap₂ (λ (other role : ℕ). rule (has other) role) c.extra.ensures c.key.ensures)
    (c.lacks_rule.ensures
    ∙ ap₂ (λ (other role : ℕ). rule (lacks other) role) (c.key-in-loop-at.ensures ∙ ap key c.next-behind.ensures) c.extra-in-loop-at.ensures)
    c.loop-at.invariant)

pub returns : goal.returns
returns c = all_made (rules_at c.args.size) (map plain_rule c.loop-at.rules.items) (rules c.args.size) c.args.size c.loop-at.at c.loop-at-test.false
    c.loop-at.invariant
