use Rattle.std.proofs.Common.{◌≡◌, ◌∙◌, sym, ap, Some, inl, inr}
use Rattle.std.specs.Prelude.{slice_get}
use Rattle.list_words.proofs.GetLemmas.{get_at}
use Rattle.arbac_laws.specs.Views.{need_of}
use Rattle.cert_needs.specs.Wanted.{need_wanted}
use Rattle.cert_needs.specs.Cover.{covers_need, IsPartner}
use Rattle.cert_needs.proofs.CoverLemmas.{joins_there, joins_nowhere}
use Rattle.cert_needs.proofs.cover.CoveringEdges.has.Goals as goal

-- both are there, and the test decides
pub returns-in-Some-Some : goal.returns-in-Some-Some
returns-in-Some-Some c =
    let users = c.args.self.now.users.now in
    let others = c.args.self.now.others.now in
    let user = c.in-Some-Some.user.now in
    let other = c.in-Some-Some.other.now in
    let first = c.in-Some-Some.ensures.lookup in
    let second = c.in-Some-Some.ensures'.lookup in
    let here : slice_get users c.args.item ≡ Some user = get_at users c.args.item user first.3.0 ∙ ap Some (sym first.1) in
    let there : slice_get others c.args.place ≡ Some other = get_at others c.args.place other second.3.0 ∙ ap Some (sym second.1) in
    joins_there (λ user other. covers_need (need_of user) (need_wanted other)) users others c.args.item c.args.place user other
    c.covers_user.result here there c.covers_user.ensures.test

-- there are fewer of the second
pub returns-in_default : goal.returns-in_default
returns-in_default c =
    joins_nowhere IsPartner c.args.self.now.users.now c.args.self.now.others.now c.args.item c.args.place (inr c.in_default.ensures'.lookup.3)

-- there are fewer of the first
pub returns-in_default-2 : goal.returns-in_default-2
returns-in_default-2 c =
    joins_nowhere IsPartner c.args.self.now.users.now c.args.self.now.others.now c.args.item c.args.place (inl c.in_default.ensures.lookup.3)
