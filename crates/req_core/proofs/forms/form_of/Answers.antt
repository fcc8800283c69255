use Rattle.std.proofs.Common.{◌≡◌, ◌-◌, ◌∙◌, ap, sym, subst, arith, Some, drop}
use Rattle.std.specs.Prelude.{slice_get}
use Rattle.list_words.proofs.GetLemmas.{get_at}
use Rattle.arbac_laws.specs.NormalForms.{AreFormPlaces}
use Rattle.arbac_laws.specs.Views.{needs_of}
use Rattle.req_core.proofs.FormLemmas.{form_none, form_normal, one_user, places_below}
use Rattle.req_core.proofs.forms.form_of.Goals as goal

pub returns-in-None-clause-form : goal.returns-in-None-clause-form
returns-in-None-clause-form c =
    let raw = c.args.raw.now in
    let at = c.loop-at.at - 1 in
    let one = c.index-raw-at.result in
    let here : slice_get raw at ≡ Some one = get_at raw at one (omega (arith, c.loop-at.auto.at, c.loop-at-test.true)) ∙ ap Some (sym c.index-raw-at.is) in
    let is = c.in-None.is in
    form_none raw at one here (rw is at c.in_ok-normal_user.ensures.need)

pub add_user-requires-clause-places : goal.add_user-requires-clause-places
add_user-requires-clause-places c =
    places_below (needs_of (drop c.loop-at.at c.args.raw.now)) c.loop-at.users.items c.loop-at.places.items c.loop-at.invariant.placed.stand

pub loop-at-preserved : goal.loop-at-preserved
loop-at-preserved c =
    let raw = c.args.raw.now in
    let at = c.loop-at.at - 1 in
    let one = c.index-raw-at.result in
    let here : slice_get raw at ≡ Some one = get_at raw at one (omega (arith, c.loop-at.auto.at, c.loop-at-test.true)) ∙ ap Some (sym c.index-raw-at.is) in
    let is = c.in-Some.is in
    let made = rw is at c.in_ok-normal_user.ensures.need in
    let normal = rw is at c.in_ok-normal_user.ensures.normal in
    one_user raw at c.loop-at.at one c.in-Some.user c.loop-at.users.items c.add_user.new.users.items c.loop-at.places.items c.add_user.new.places.items
    (omega (arith, c.loop-at-test.true)) here made normal c.loop-at.invariant c.in_ok-add_user-in-Some.ensures.users c.in_ok-add_user-in-Some.ensures.placed

pub invariant_of-result : goal.invariant_of-result
invariant_of-result c = form_normal (needs_of (drop c.loop-at.at c.args.raw.now)) c.loop-at.users.items c.loop-at.places.items c.loop-at.invariant

-- at the end all users are gone through
pub returns-clause-places : goal.returns-clause-places
returns-clause-places c =
    let none : c.loop-at.at ≡ 0 = omega (arith, c.loop-at-test.false) in
    subst (λ n. AreFormPlaces (needs_of (drop n c.args.raw.now)) c.loop-at.users.items c.loop-at.places.items) none c.loop-at.invariant.placed.stand
