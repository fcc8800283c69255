use Rattle.std.proofs.Common.{ℕ, ◌≡◌, ◌<◌, ◌≤◌, List, length, slice_index_or, subst, Some}
use Rattle.std.specs.Prelude.{◌↔◌, slice_get}
use Rattle.list_words.proofs.EachLemmas.{each_at}
use Rattle.list_words.proofs.GetLemmas.{get_at, take_all}
use Rattle.arbac_policy.specs.Rules.{IsKnownPair}
use Rattle.rule_prune.specs.Relevant.{AsksApart, HaveLinked}
use Rattle.rule_prune.specs.declared.relevance.Relevance.{Relevance}
use Rattle.rule_prune.proofs.RelevantLemmas.{AreLinked, more_linked, none_linked}
use Rattle.rule_prune.proofs.links.add_pairs.Goals as goal

pub loop-pair-init : goal.loop-pair-init
loop-pair-init c = none_linked (AsksApart c.args.policy.now.order c.args.givable.now) c.args.links.now.items

-- both are roles, as in each policy
pub add_pair-requires : goal.add_pair-requires
add_pair-requires c =
    let rules = c.args.policy.now in
    let within : c.loop-pair.pair-index < length rules.exclusive = rw c.exclusive-pair-items.ensures at c.loop-pair-test.true in
    rw (c.order-order.ensures.order, c.exclusive-pair-items.ensures)
    (each_at (IsKnownPair (length rules.order.names)) rules.exclusive c.loop-pair.pair-index (slice_index_or rules.exclusive c.loop-pair.pair-index (0, 0))
    c.order-order.ensures.known.exclusive (get_at rules.exclusive c.loop-pair.pair-index (0, 0) within))

-- one pair more
pub loop-pair-preserved : goal.loop-pair-preserved
loop-pair-preserved c =
    let rules = c.args.policy.now in
    let order = rules.order in
    let givable = c.args.givable.now in
    let pair : ℕ × ℕ = slice_index_or rules.exclusive c.loop-pair.pair-index (0, 0) in
    let within : c.loop-pair.pair-index < length rules.exclusive = rw c.exclusive-pair-items.ensures at c.loop-pair-test.true in
    let here : slice_get rules.exclusive c.loop-pair.pair-index ≡ Some pair = get_at rules.exclusive c.loop-pair.pair-index (0, 0) within in
    let step : (roles : Relevance) → HaveLinked c.add_pair.new.links.items roles ↔ (HaveLinked c.loop-pair.links.items roles
    × AsksApart order givable roles pair) =
    rw (c.order-order.ensures.order, c.exclusive-pair-items.ensures) at c.in_ok-add_pair.ensures in
    more_linked (AsksApart order givable) rules.exclusive c.loop-pair.pair-index pair c.args.links.now.items c.loop-pair.links.items
    c.add_pair.new.links.items here step c.loop-pair.invariant

pub returns : goal.returns
returns c =
    let rules = c.args.policy.now in
    let all : length rules.exclusive ≤ c.loop-pair.pair-index = rw c.exclusive-pair-items.ensures at c.loop-pair-test.false in
    subst (λ (xs : List (ℕ × ℕ)). AreLinked (AsksApart rules.order c.args.givable.now) xs c.args.links.now.items c.loop-pair.links.items)
    (take_all rules.exclusive c.loop-pair.pair-index all) c.loop-pair.invariant
