use Rattle.std.proofs.Common.{◌≡◌, ◌∙◌, ap, sym, Some}
use Rattle.std.specs.Prelude.{slice_get}
use Rattle.list_words.proofs.GetLemmas.{get_at}
use Rattle.cert_text.specs.Certificates.{users_of}
use Rattle.cert_check.specs.Asked.{HasOpen}
use Rattle.cert_check.proofs.ClosedLemmas.{none_all, none_more, not_open, open_here}
use Rattle.cert_check.proofs.closed.first_with_open.Goals as goal

-- this need has an open obligation, and none before it has
pub returns-in-Some-clause-first : goal.returns-in-Some-clause-first
returns-in-Some-clause-first c =
    let needs = c.args.needs.now in
    let place = c.loop-place.place in
    let need = c.index-needs-place.result in
    let here : slice_get needs place ≡ Some need = get_at needs place need c.loop-place-test.true ∙ ap Some (sym c.index-needs-place.is) in
    rw c.in_ok-number_of.ensures
    (open_here c.args.book.now c.args.index.now.members needs place c.in-Some.obligation need c.loop-place.invariant here
    (rw (c.in-Some.is, c.deref.ensures.value) at c.in_ok-obligation.ensures.first))

-- this need has none
pub loop-place-preserved : goal.loop-place-preserved
loop-place-preserved c =
    let needs = c.args.needs.now in
    let place = c.loop-place.place in
    let need = c.index-needs-place.result in
    let here : slice_get needs place ≡ Some need = get_at needs place need c.loop-place-test.true ∙ ap Some (sym c.index-needs-place.is) in
    none_more users_of (HasOpen c.args.book.now c.args.index.now.members) needs place need c.loop-place.invariant here
    (not_open c.args.book.now c.args.index.now.members (users_of need)
    (rw (c.in_default.is, c.deref.ensures.value) at c.in_ok-obligation.ensures.none))

pub returns-clause-none : goal.returns-clause-none
returns-clause-none c =
    none_all users_of (HasOpen c.args.book.now c.args.index.now.members) c.args.needs.now c.loop-place.place c.loop-place.invariant
    c.loop-place-test.false
