use Rattle.std.proofs.Common.{◌≡◌, ◌∙◌, ap, sym, Some}
use Rattle.std.specs.Prelude.{slice_get}
use Rattle.list_words.proofs.GetLemmas.{get_at}
use Rattle.cert_needs.proofs.WantedLemmas.{needs_more, free_more}
use Rattle.cert_needs.proofs.wanted.as_wanted.Goals as goal

-- one user more
pub loop-user-preserved : goal.loop-user-preserved
loop-user-preserved c =
    let users = c.args.users.now in
    let user = c.user-item.result in
    let here : slice_get users c.loop-user.user-index ≡ Some user
    = get_at users c.loop-user.user-index user c.loop-user-test.true ∙ ap Some (sym c.user-item.is) in
    rw c.in_ok-extend_from_slice.ensures.items record {
      needs = needs_more users c.loop-user.list.items c.loop-user.user-index user c.wanted_of.result here c.loop-user.invariant.needs c.wanted_of.ensures.need;
      free = free_more c.loop-user.list.items c.wanted_of.result c.loop-user.invariant.free c.wanted_of.ensures.free;
    }
