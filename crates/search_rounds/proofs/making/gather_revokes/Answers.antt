use Rattle.std.proofs.Common.{ℕ, ◌≡◌, ◌<◌, ◌≤◌, ◌∙◌, List, length, ap, arith}
use Rattle.list_words.proofs.GetLemmas.{get_there}
use Rattle.arbac_policy.specs.declared.rule.CanRevoke.{CanRevoke}
use Rattle.arbac_policy.specs.Rules.{Rules}
use Rattle.arbac_laws.specs.Obligations.{flat_places}
use Rattle.arbac_laws.specs.Recorded.{Entry}
use Rattle.search_rounds.specs.Making.{by_revoke}
use Rattle.search_rounds.specs.Listing.{parent_needs}
use Rattle.search_rounds.proofs.ListingLemmas.{starts, place_passed, places_passed}
use Rattle.search_rounds.proofs.making.gather_revokes.Goals as goal

-- nothing is gathered yet
pub loop-place-init : goal.loop-place-init
loop-place-init c =
    let work = c.args.work.now in
    let rules = work.prepared.now in
    starts c.args.gathering.now (flat_places (by_revoke rules work.parent.number (parent_needs work)) 0 rules.revoke)

-- those by one rule more
pub loop-place-preserved : goal.loop-place-preserved
loop-place-preserved c =
    let work = c.args.work.now in
    let rules = work.prepared.now in
    let at = c.loop-place.place in
    let f : ℕ → CanRevoke → List Entry = by_revoke rules work.parent.number (parent_needs work) in
    let long : c.in_ok-count.count ≡ length rules.revoke =
    c.in_ok-count.ensures ∙ ap length (c.revoke.ensures ∙ ap (λ (r : Rules). r.revoke) c.policy.ensures) in
    let below : at < length rules.revoke = (let l = c.loop-place-test.true in omega (arith, l, long)) in
    let rule = get_there rules.revoke at below in
    place_passed f rules.revoke at rule.0 c.args.gathering.now c.loop-place.gathering c.gather_revoke.new.gathering (flat_places f 0 rules.revoke)
    rule.1 c.loop-place.invariant (c.in_ok-gather_revoke.ensures rule.0 rule.1)

-- those by all rules
pub returns : goal.returns
returns c =
    let work = c.args.work.now in
    let rules = work.prepared.now in
    let at = c.loop-place.place in
    let f : ℕ → CanRevoke → List Entry = by_revoke rules work.parent.number (parent_needs work) in
    let long : c.in_ok-count.count ≡ length rules.revoke =
    c.in_ok-count.ensures ∙ ap length (c.revoke.ensures ∙ ap (λ (r : Rules). r.revoke) c.policy.ensures) in
    let past : length rules.revoke ≤ at = (let l = c.loop-place-test.false in omega (arith, l, long)) in
    places_passed f rules.revoke at c.args.gathering.now c.loop-place.gathering (flat_places f 0 rules.revoke) past c.loop-place.invariant
