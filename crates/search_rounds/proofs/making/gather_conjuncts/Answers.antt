use Rattle.std.proofs.Common.{ℕ, ◌≡◌, ◌<◌, ◌≤◌, ◌∙◌, List, Some, length, refl, ap, subst, arith}
use Rattle.std.specs.Prelude.{slice_get}
use Rattle.std.proofs.lemmas.List.{length-map}
use Rattle.list_words.proofs.GetLemmas.{get_map}
use Rattle.role_order.specs.Graph.{Graph}
use Rattle.role_order.specs.Reach.{seniors_of}
use Rattle.arbac_policy.specs.Rules.{Rules}
use Rattle.arbac_laws.specs.Needs.{Need}
use Rattle.arbac_laws.specs.Obligations.{flat, flat_places}
use Rattle.arbac_laws.specs.Recorded.{Entry}
use Rattle.arbac_laws.specs.Views.{need_of, needs_of}
use Rattle.search_rounds.specs.Keeping.{Gathers}
use Rattle.search_rounds.specs.Making.{gives, by_role}
use Rattle.search_rounds.specs.Listing.{parent_needs}
use Rattle.search_rounds.proofs.ListingLemmas.{starts, item_is, place_passed, places_passed}
use Rattle.search_rounds.proofs.making.gather_conjuncts.Goals as goal

-- nothing is gathered yet
pub loop-place-init : goal.loop-place-init
loop-place-init c =
    let work = c.args.work.now in
    let rules = work.prepared.now in
    let f : ℕ → Need → List Entry = λ place conjunct.
    flat (by_role rules work.parent.number (gives c.args.rule place conjunct) (seniors_of rules.order c.args.admin) (parent_needs work)) c.args.roles.now in
    starts c.args.gathering.now (flat_places f 0 (needs_of c.args.conjuncts.now))

-- those by one conjunct more
pub loop-place-preserved : goal.loop-place-preserved
loop-place-preserved c =
    let work = c.args.work.now in
    let rules = work.prepared.now in
    let list = c.args.conjuncts.now in
    let at = c.loop-place.place in
    let one = c.index-conjuncts-place.result in
    let f : ℕ → Need → List Entry = λ place conjunct.
    flat (by_role rules work.parent.number (gives c.args.rule place conjunct) (seniors_of rules.order c.args.admin) (parent_needs work)) c.args.roles.now in
    let below : at < length list = (let l = c.loop-place-test.true in let long = c.in_ok-count.ensures in omega (arith, l, long)) in
    let here : slice_get list at ≡ Some one = item_is list list at one refl below c.index-conjuncts-place.is in
    let hit_is : c.seniors-hit.result ≡ seniors_of rules.order c.args.admin = c.seniors-hit.ensures.seniors
    ∙ ap (λ (g : Graph). seniors_of g c.args.admin) (c.order.ensures.order ∙ ap (λ (r : Rules). r.order) c.policy.ensures) in
    place_passed f (needs_of list) at (need_of one) c.args.gathering.now c.loop-place.gathering c.gather_roles.new.gathering
    (flat_places f 0 (needs_of list)) (get_map need_of list at one here) c.loop-place.invariant
    (subst (λ (s : List ℕ). Gathers c.loop-place.gathering c.gather_roles.new.gathering
    (flat (by_role rules work.parent.number (gives c.args.rule at (need_of one)) s (parent_needs work)) c.args.roles.now)) hit_is
    c.in_ok-gather_roles.ensures)

-- those by all conjuncts
pub returns : goal.returns
returns c =
    let work = c.args.work.now in
    let rules = work.prepared.now in
    let list = c.args.conjuncts.now in
    let at = c.loop-place.place in
    let f : ℕ → Need → List Entry = λ place conjunct.
    flat (by_role rules work.parent.number (gives c.args.rule place conjunct) (seniors_of rules.order c.args.admin) (parent_needs work)) c.args.roles.now in
    let same = length-map list need_of in
    let past : length (needs_of list) ≤ at =
    (let l = c.loop-place-test.false in let long = c.in_ok-count.ensures in omega (arith, l, long, same)) in
    places_passed f (needs_of list) at c.args.gathering.now c.loop-place.gathering (flat_places f 0 (needs_of list)) past c.loop-place.invariant
