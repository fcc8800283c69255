use Rattle.std.proofs.Common.{◌≡◌, ◌<◌, ◌≤◌, false, List, length, get_or, subst, Some}
use Rattle.std.specs.Prelude.{◌↔◌, slice_get}
use Rattle.list_words.proofs.GetLemmas.{get_at, take_all}
use Rattle.arbac_policy.specs.declared.rule.CanRevoke.{CanRevoke}
use Rattle.rule_prune.specs.Relevant.{AsksToRevoke, LeadsOn}
use Rattle.rule_prune.specs.declared.relevance.Relevance.{Relevance}
use Rattle.rule_prune.proofs.RelevantLemmas.{AreLinked, none_linked, one_linked}
use Rattle.rule_prune.proofs.links.add_revokes.Goals as goal

-- a rule that is copied is read with this one where there is none
abbrev no_rule : CanRevoke
no_rule = record { admin = 0; range = record { low = 0; high = 0; low_open = false; high_open = false } }

pub loop-rule-init : goal.loop-rule-init
loop-rule-init c = none_linked (AsksToRevoke c.args.policy.now.order) c.args.links.now.items

-- one rule more
pub loop-rule-preserved : goal.loop-rule-preserved
loop-rule-preserved c =
    let rules = c.args.policy.now in
    let rule : CanRevoke = get_or rules.revoke c.loop-rule.rule-index no_rule in
    let within : c.loop-rule.rule-index < length rules.revoke = rw c.revoke-rule-items.ensures at c.loop-rule-test.true in
    let here : slice_get rules.revoke c.loop-rule.rule-index ≡ Some rule = get_at rules.revoke c.loop-rule.rule-index no_rule within in
    let same : (roles : Relevance) → LeadsOn c.revoke_link.result roles roles ↔ AsksToRevoke rules.order roles rule =
    rw (c.order-order.ensures.order, c.revoke-rule-items.ensures) at c.revoke_link.ensures in
    one_linked (AsksToRevoke rules.order) rules.revoke c.loop-rule.rule-index rule c.args.links.now.items c.loop-rule.links.items c.revoke_link.result
    c.push.new.self.items here c.in_ok-push.ensures.items same c.loop-rule.invariant

pub returns : goal.returns
returns c =
    let rules = c.args.policy.now in
    let all : length rules.revoke ≤ c.loop-rule.rule-index = rw c.revoke-rule-items.ensures at c.loop-rule-test.false in
    subst (λ (xs : List CanRevoke). AreLinked (AsksToRevoke rules.order) xs c.args.links.now.items c.loop-rule.links.items)
    (take_all rules.revoke c.loop-rule.rule-index all) c.loop-rule.invariant
