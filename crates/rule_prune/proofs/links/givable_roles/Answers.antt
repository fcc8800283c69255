use Rattle.std.proofs.Common.{ℕ, ◌≡◌, ◌≤◌, ◌∙◌, ap, length, sym, Some}
use Rattle.std.specs.Prelude.{◌↔◌, slice_get}
use Rattle.list_words.proofs.GetLemmas.{get_at}
use Rattle.role_order.specs.Ranges.{IsInRange}
use Rattle.role_order.specs.Roles.{IsIn}
use Rattle.arbac_policy.specs.declared.rule.CanAssign.{CanAssign}
use Rattle.rule_prune.proofs.RelevantLemmas.{all_given, more_given, none_given}
use Rattle.rule_prune.proofs.links.givable_roles.Goals as goal

pub loop-rule-init : goal.loop-rule-init
loop-rule-init c = rw c.empty-givable.ensures (none_given c.args.policy.now.order c.args.policy.now.assign)

-- one rule more
pub loop-rule-preserved : goal.loop-rule-preserved
loop-rule-preserved c =
    let rules = c.args.policy.now in
    let rule = c.rule-item.result in
    let there : slice_get c.assign-rule-items.result.now c.loop-rule.rule-index ≡ Some rule =
    get_at c.assign-rule-items.result.now c.loop-rule.rule-index rule c.loop-rule-test.true ∙ ap (λ (r : CanAssign). Some r) (sym c.rule-item.is) in
    let here : slice_get rules.assign c.loop-rule.rule-index ≡ Some rule = rw c.assign-rule-items.ensures at there in
    let range : (role : ℕ) → IsIn c.roles_of.result role ↔ IsInRange rules.order rule.range role =
    rw c.order-order.ensures.order at c.roles_of.ensures.roles in
    rw c.join-givable.ensures
    (more_given rules.order rules.assign c.loop-rule.rule-index rule c.loop-rule.givable c.roles_of.result here c.loop-rule.invariant range)

pub returns : goal.returns
returns c =
    let rules = c.args.policy.now in
    let all : length rules.assign ≤ c.loop-rule.rule-index = rw c.assign-rule-items.ensures at c.loop-rule-test.false in
    all_given rules c.loop-rule.rule-index c.loop-rule.givable all c.loop-rule.invariant
