use Rattle.std.proofs.Common.{◌≡◌, ◌∙◌, Some, None, ap, sym, rules}
use Rattle.std.specs.Prelude.{slice_get}
use Rattle.arbac_laws.specs.PreImages.{add_hit}
use Rattle.req_core.specs.Forms.{user_form}
use Rattle.shared_reqs.specs.Shared.{IsOwnMark, MarkedNeed, needs_marked}
use Rattle.list_words.proofs.GetLemmas.{get_map}
use Rattle.search_rounds.proofs.PickLemmas.{made_other}
use Rattle.search_rounds.proofs.picks.made_by_other.Goals as goal

pub returns-in-None-clause-form : goal.returns-in-None-clause-form
returns-in-None-clause-form c = λ raw e.
    let at : slice_get (needs_marked c.args.parent.now.req.now) c.args.place ≡ Some c.user-user.result.now =
    get_map (λ (one : MarkedNeed). one.need) c.args.parent.now.req.now c.args.place c.user_at.result.now c.user_at.ensures
    ∙ ap Some (sym c.user-user.ensures.need) in
    let made : None ≡ user_form (add_hit c.args.deed.now.hit c.user-user.result.now) = search rules in
    made_other (needs_marked c.args.parent.now.req.now) c.args.deed.now.target c.args.place c.args.deed.now.hit c.args.before.now.value.need raw
    c.user-user.result.now c.users.ensures.normal.each c.requires.apart at e None made

pub returns-in_ok-exchanged_both-in-Some-clause-form : goal.returns-in_ok-exchanged_both-in-Some-clause-form
returns-in_ok-exchanged_both-in-Some-clause-form c = λ raw e.
    let at : slice_get (needs_marked c.args.parent.now.req.now) c.args.place ≡ Some c.user-user.result.now =
    get_map (λ (one : MarkedNeed). one.need) c.args.parent.now.req.now c.args.place c.user_at.result.now c.user_at.ensures
    ∙ ap Some (sym c.user-user.ensures.need) in
    let made : Some c.in-Some.admin.value.need ≡ user_form (add_hit c.args.deed.now.hit c.user-user.result.now) = search rules in
    ap Some c.in_ok-exchanged_both-in-Some.ensures.needs
    ∙ made_other (needs_marked c.args.parent.now.req.now) c.args.deed.now.target c.args.place c.args.deed.now.hit c.args.before.now.value.need raw
    c.user-user.result.now c.users.ensures.normal.each c.requires.apart at e (Some c.in-Some.admin.value.need) made

pub returns-in_ok-exchanged_both-in-Some-clause-marks : goal.returns-in_ok-exchanged_both-in-Some-clause-marks
returns-in_ok-exchanged_both-in-Some-clause-marks c =
    let own : IsOwnMark c.args.gathering.now.order c.in-Some.admin.value = search rules in
    c.in_ok-exchanged_both-in-Some.ensures.marks c.args.gathering.now.order c.requires.marks c.requires.before own
