use Rattle.std.proofs.Common.{◌≡◌, ◌∙◌, ap, sym, Some}
use Rattle.std.specs.Prelude.{slice_get}
use Rattle.list_words.proofs.GetLemmas.{get_at}
use Rattle.arbac_laws.specs.Needs.{Need}
use Rattle.shared_reqs.specs.Shared.{MarkedNeed}
use Rattle.shared_reqs.proofs.SharedLemmas.{need_there}
use Rattle.shared_reqs.proofs.shared.user_at.Goals as goal

-- the user requirement is that of the user at the place
pub returns : goal.returns
returns c =
    let users = c.args.users.now in
    let one = c.index-users-at.result in
    let here : slice_get users c.args.at ≡ Some one = get_at users c.args.at one c.requires ∙ ap Some (sym c.index-users-at.is) in
    let same : c.user.result.now ≡ one.value.need = c.user.ensures.need ∙ ap (λ (m : MarkedNeed). m.need) c.deref.ensures in
    need_there users c.args.at one here ∙ ap (λ (need : Need). Some need) (sym same)
