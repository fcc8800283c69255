use Rattle.std.proofs.Common.{◌≡◌, ◌∙◌, Some, ap, refl, sym}
use Rattle.std.specs.Prelude.{slice_get}
use Rattle.list_words.proofs.GetLemmas.{get_at}
use Rattle.shared_reqs.proofs.SharedLemmas.{borrowed_next}
use Rattle.shared_reqs.proofs.shared.SharedReq.list.Goals as goal

-- one user more is borrowed
pub loop-user-preserved : goal.loop-user-preserved
loop-user-preserved c =
    let users = c.deref-user-items.result.now in
    let one = c.user-item.result in
    let at = c.loop-user.user-index in
    let here : slice_get users at ≡ Some one = get_at users at one c.loop-user-test.true ∙ ap Some (sym c.user-item.is) in
    borrowed_next users at one c.loop-user.list.items c.push.new.self.items _ here c.loop-user.invariant c.in_ok-push.ensures.items refl
