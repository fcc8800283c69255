use Rattle.std.proofs.Common.{◌≡◌, ◌∙◌, ap, sym, Some}
use Rattle.std.specs.Prelude.{slice_get}
use Rattle.list_words.proofs.GetLemmas.{get_at}
use Rattle.cert_text.specs.Certificates.{users_of}
use Rattle.cert_check.specs.Asked.{HasStart}
use Rattle.cert_check.proofs.ClosedLemmas.{met_here, none_all, none_more, not_met}
use Rattle.cert_check.proofs.closed.first_met.Goals as goal

-- this need is met, and none before it
pub returns-in-Some-clause-first : goal.returns-in-Some-clause-first
returns-in-Some-clause-first c =
    let needs = c.args.needs.now in
    let place = c.loop-place.place in
    let need = c.index-needs-place.result in
    let here : slice_get needs place ≡ Some need = get_at needs place need c.loop-place-test.true ∙ ap Some (sym c.index-needs-place.is) in
    rw c.in_ok-number_of.ensures
    (met_here c.args.profiles.now needs place c.in-Some.choice.items need c.loop-place.invariant here
    (rw (c.in-Some.is, c.deref.ensures.value) at c.in_ok-choice.ensures.some))

-- this need is met by none
pub loop-place-preserved : goal.loop-place-preserved
loop-place-preserved c =
    let needs = c.args.needs.now in
    let place = c.loop-place.place in
    let need = c.index-needs-place.result in
    let here : slice_get needs place ≡ Some need = get_at needs place need c.loop-place-test.true ∙ ap Some (sym c.index-needs-place.is) in
    none_more users_of (HasStart c.args.profiles.now) needs place need c.loop-place.invariant here
    (not_met c.args.profiles.now (users_of need) (rw (c.in_default.is, c.deref.ensures.value) at c.in_ok-choice.ensures.none))

pub returns-clause-none : goal.returns-clause-none
returns-clause-none c =
    none_all users_of (HasStart c.args.profiles.now) c.args.needs.now c.loop-place.place c.loop-place.invariant c.loop-place-test.false
