use Rattle.std.proofs.Common.{◌≡◌, ◌≤◌, ◌∙◌, List, length, ap, sym, subst, Some}
use Rattle.std.specs.Prelude.{◌↔◌, slice_get}
use Rattle.list_words.proofs.GetLemmas.{get_at, take_all}
use Rattle.arbac_policy.specs.declared.rule.CanAssign.{CanAssign}
use Rattle.rule_prune.specs.Relevant.{AsksToAssign, LeadsOn}
use Rattle.rule_prune.specs.declared.relevance.Relevance.{Relevance}
use Rattle.rule_prune.proofs.RelevantLemmas.{AreLinked, none_linked, one_linked}
use Rattle.rule_prune.proofs.links.add_assigns.Goals as goal

pub loop-rule-init : goal.loop-rule-init
loop-rule-init c = none_linked (AsksToAssign c.args.policy.now.order) c.args.links.now.items

-- one rule more
pub loop-rule-preserved : goal.loop-rule-preserved
loop-rule-preserved c =
    let rules = c.args.policy.now in
    let rule = c.rule-item.result in
    let there : slice_get c.assign-rule-items.result.now c.loop-rule.rule-index ≡ Some rule =
    get_at c.assign-rule-items.result.now c.loop-rule.rule-index rule c.loop-rule-test.true ∙ ap (λ (r : CanAssign). Some r) (sym c.rule-item.is) in
    let here : slice_get rules.assign c.loop-rule.rule-index ≡ Some rule = rw c.assign-rule-items.ensures at there in
    let same : (roles : Relevance) → LeadsOn c.assign_link.result roles roles ↔ AsksToAssign rules.order roles rule =
    rw c.order-order.ensures.order at c.assign_link.ensures in
    one_linked (AsksToAssign rules.order) rules.assign c.loop-rule.rule-index rule c.args.links.now.items c.loop-rule.links.items c.assign_link.result
    c.push.new.self.items here c.in_ok-push.ensures.items same c.loop-rule.invariant

pub returns : goal.returns
returns c =
    let rules = c.args.policy.now in
    let all : length rules.assign ≤ c.loop-rule.rule-index = rw c.assign-rule-items.ensures at c.loop-rule-test.false in
    subst (λ (xs : List CanAssign). AreLinked (AsksToAssign rules.order) xs c.args.links.now.items c.loop-rule.links.items)
    (take_all rules.assign c.loop-rule.rule-index all) c.loop-rule.invariant
