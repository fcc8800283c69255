use Rattle.std.proofs.Common.{ℕ, ◌<◌, ◌≤◌, List, length, arith}
use Rattle.list_words.proofs.GetLemmas.{get_there}
use Rattle.arbac_laws.specs.Needs.{Need}
use Rattle.arbac_laws.specs.Recorded.{Entry}
use Rattle.search_rounds.specs.Making.{way_of, by_target}
use Rattle.search_rounds.specs.Listing.{parent_needs, of_acts}
use Rattle.search_rounds.proofs.ListingLemmas.{starts, user_count, place_passed, places_passed}
use Rattle.search_rounds.proofs.making.gather_role.Goals as goal

-- nothing is gathered yet
pub loop-target-init : goal.loop-target-init
loop-target-init c = starts c.args.gathering.now (of_acts c.args.work.now c.args.acts.now c.args.role)

-- those on one target more
pub loop-target-preserved : goal.loop-target-preserved
loop-target-preserved c =
    let work = c.args.work.now in
    let acts = c.args.acts.now in
    let at = c.loop-target.target in
    let f : ℕ → Need → List Entry = by_target work.prepared.now work.parent.number (way_of acts.change) acts.hit (parent_needs work) c.args.role in
    let long = user_count c.users.result.now work.parent.req.now c.in_ok-count.count c.users.ensures.users c.in_ok-count.ensures in
    let below : at < length (parent_needs work) = (let l = c.loop-target-test.true in omega (arith, l, long)) in
    let need = get_there (parent_needs work) at below in
    place_passed f (parent_needs work) at need.0 c.args.gathering.now c.loop-target.gathering c.gather_target.new.gathering (of_acts work acts c.args.role)
    need.1 c.loop-target.invariant (c.in_ok-gather_target.ensures need.0 need.1)

-- those on all targets
pub returns : goal.returns
returns c =
    let work = c.args.work.now in
    let acts = c.args.acts.now in
    let at = c.loop-target.target in
    let f : ℕ → Need → List Entry = by_target work.prepared.now work.parent.number (way_of acts.change) acts.hit (parent_needs work) c.args.role in
    let long = user_count c.users.result.now work.parent.req.now c.in_ok-count.count c.users.ensures.users c.in_ok-count.ensures in
    let past : length (parent_needs work) ≤ at = (let l = c.loop-target-test.false in omega (arith, l, long)) in
    places_passed f (parent_needs work) at c.args.gathering.now c.loop-target.gathering (of_acts work acts c.args.role) past c.loop-target.invariant
