use Rattle.std.proofs.Common.{◌≡◌, ◌<◌, ◌∙◌, List, length, take, subst, sym, ap, arith, Some}
use Rattle.std.specs.Prelude.{slice_get}
use Rattle.list_words.specs.Places.{ArePlaces}
use Rattle.list_words.proofs.GetLemmas.{get_at, length_set, take_all}
use Rattle.list_words.proofs.PlaceLemmas.{from_places}
use Rattle.arbac_policy.specs.declared.conjunct.Conjunct.{Conjunct}
use Rattle.cert_needs.specs.Cover.{IsPartner, IsFreePartner}
use Rattle.cert_needs.proofs.CoverLemmas.{one_more_partner, partners_cover}
use Rattle.cert_needs.proofs.cover.find_free_partners.Goals as goal

-- one user more has a partner whom those before have left
pub loop-at-preserved : goal.loop-at-preserved
loop-at-preserved c =
    let users = c.args.users.now in
    let others = c.args.others.now in
    let at = c.loop-at.at in
    let taken = c.loop-at.taken in
    let user = c.index-users-at.result in
    let long = c.loop-at.invariant.0 in
    let less : at < length taken = omega (arith, long, c.loop-at-test.true, c.requires) in
    let here : slice_get users at ≡ Some user = get_at users at user c.loop-at-test.true ∙ ap Some (sym c.index-users-at.is) in
    let free : IsFreePartner user others (take at taken) c.in-Some.place = c.in-Some.ensures in
    (length_set taken at c.in-Some.place ∙ long, one_more_partner users others taken at c.in-Some.place user less here c.loop-at.invariant.1 free)

-- at the end all users have partners
pub returns : goal.returns
returns c = λ _.
    let users = c.args.users.now in
    let others = c.args.others.now in
    let taken = take c.loop-at.at c.loop-at.taken in
    let all : take c.loop-at.at users ≡ users = take_all users c.loop-at.at c.loop-at-test.false in
    let places : ArePlaces IsPartner users others taken =
    subst (λ (xs : List Conjunct). ArePlaces IsPartner xs others taken) all c.loop-at.invariant.1 in
    partners_cover users others (from_places IsPartner users others taken places)
