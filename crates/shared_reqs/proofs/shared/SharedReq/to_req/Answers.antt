use Rattle.std.proofs.Common.{◌≡◌, ◌∙◌, ◌++◌, ◌∷◌, [], List, Some, ap, sym}
use Rattle.std.specs.Prelude.{slice_get}
use Rattle.list_words.proofs.GetLemmas.{get_at}
use Rattle.arbac_laws.specs.Needs.{Need}
use Rattle.shared_reqs.specs.Shared.{MarkedNeed}
use Rattle.shared_reqs.proofs.SharedLemmas.{seen_next}
use Rattle.shared_reqs.proofs.shared.SharedReq.to_req.Goals as goal

-- a copy of one user requirement more
pub loop-user-preserved : goal.loop-user-preserved
loop-user-preserved c =
    let users = c.deref-user-items.result.now in
    let one = c.user-item.result in
    let at = c.loop-user.user-index in
    let here : slice_get users at ≡ Some one = get_at users at one c.loop-user-test.true ∙ ap Some (sym c.user-item.is) in
    let wanted : c.user.result.now ≡ one.value.need = c.user.ensures.need ∙ ap (λ (m : MarkedNeed). m.need) c.deref.ensures in
    let need : c.in_ok-copy.field-0 ≡ one.value.need = c.in_ok-copy.ensures ∙ wanted in
    seen_next (λ (m : MarkedNeed). m.need) users at one c.loop-user.users.items c.push.new.self.items here c.loop-user.invariant
    (◌∙◌ {A = List Need} c.in_ok-push.ensures.items (ap (λ (n : Need). c.loop-user.users.items ++ n ∷ []) need))
