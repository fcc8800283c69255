use Rattle.std.proofs.Common.{◌≡◌, ◌≤◌, ◌∙◌, ap, sym, length, arith, Some}
use Rattle.std.specs.Prelude.{slice_get}
use Rattle.std.proofs.lemmas.Bool.Decides.{nat_tests}
use Rattle.list_words.proofs.GetLemmas.{get_below}
use Rattle.arbac_laws.specs.Needs.{Need}
use Rattle.shared_reqs.specs.Shared.{MarkedNeed, needs_shared}
use Rattle.std.specs.Bool.{IsTrue}
use Rattle.shared_reqs.proofs.SharedLemmas.{looked_up, need_there, shared_long, tested_there}
use Rattle.shared_reqs.proofs.pool.SameUserAccepts.accepts.Goals as goal

-- the user that stands there is tested
pub returns-in-Some : goal.returns-in-Some
returns-in-Some c =
    let users = c.args.self.now.users.now in
    let one = c.in-Some.other.now in
    let at : slice_get users c.args.item ≡ Some one = looked_up users c.args.item one _ c.in-Some.ensures.lookup.0 c.in-Some.ensures.lookup.1 in
    let same : c.user.result.now ≡ one.value.need = c.user.ensures.need ∙ ap (λ (m : MarkedNeed). m.need) c.deref.ensures in
    let there : slice_get (needs_shared users) c.args.item ≡ Some c.user.result.now =
    need_there users c.args.item one at ∙ ap (λ (need : Need). Some need) (sym same) in
    tested_there (IsTrue c.is_same.result) (needs_shared users) c.args.item c.user.result.now c.args.self.now.user.now there c.is_same.ensures

-- there is no user
pub returns-in-None : goal.returns-in-None
returns-in-None c =
    let users = c.args.self.now.users.now in
    let past : length users ≤ c.args.item = grind (arith, nat_tests, c.in-None.ensures.lookup) in
    let long = shared_long users in (
      λ never. cc,
      λ there. let below = get_below (needs_shared users) c.args.item c.args.self.now.user.now there in absurd (omega (arith, below, past, long)),
    )
