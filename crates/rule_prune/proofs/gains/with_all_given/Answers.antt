use Rattle.std.proofs.Common.{◌≡◌, ◌≤◌, ◌∙◌, ap, length, sym, Some}
use Rattle.std.specs.Prelude.{slice_get}
use Rattle.list_words.proofs.GetLemmas.{get_at}
use Rattle.role_order.specs.Roles.{IsWithin}
use Rattle.arbac_policy.specs.declared.rule.CanAssign.{CanAssign}
use Rattle.rule_prune.specs.Gains.{Gives}
use Rattle.rule_prune.specs.Steps.{IsStep}
use Rattle.rule_prune.proofs.GainLemmas.{gives_stays, within_order}
use Rattle.rule_prune.proofs.StepLemmas.{all_steps, no_step, one_step}
use Rattle.rule_prune.proofs.gains.with_all_given.Goals as goal

pub loop-rule-init : goal.loop-rule-init
loop-rule-init c = no_step IsWithin within_order (Gives c.args.policy.now.order) c.args.policy.now.assign c.args.set.now

-- one rule more
pub loop-rule-preserved : goal.loop-rule-preserved
loop-rule-preserved c =
    let rules = c.args.policy.now in
    let rule = c.rule-item.result in
    let there : slice_get c.assign-rule-items.result.now c.loop-rule.rule-index ≡ Some rule =
    get_at c.assign-rule-items.result.now c.loop-rule.rule-index rule c.loop-rule-test.true ∙ ap (λ (r : CanAssign). Some r) (sym c.rule-item.is) in
    let here : slice_get rules.assign c.loop-rule.rule-index ≡ Some rule = rw c.assign-rule-items.ensures at there in
    let step : IsStep IsWithin (Gives rules.order rule) c.loop-rule.wider c.with_given-wider.result =
    rw c.order-order.ensures.order at c.with_given-wider.ensures in
    one_step IsWithin within_order (Gives rules.order) (gives_stays rules.order) rules.assign c.loop-rule.rule-index rule here
    c.args.set.now c.loop-rule.wider c.with_given-wider.result c.loop-rule.invariant step

pub returns : goal.returns
returns c =
    let rules = c.args.policy.now in
    let all : length rules.assign ≤ c.loop-rule.rule-index = rw c.assign-rule-items.ensures at c.loop-rule-test.false in
    all_steps IsWithin (Gives rules.order) rules.assign c.loop-rule.rule-index all c.args.set.now c.loop-rule.wider c.loop-rule.invariant
