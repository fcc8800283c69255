use Rattle.std.proofs.Common.{◌≡◌, ◌∙◌, [], ◌∷◌, Some, None, ap, rules}
use Rattle.req_core.specs.Forms.{user_form}
use Rattle.shared_reqs.specs.Shared.{IsOwnMark, needs_marked}
use Rattle.search_rounds.proofs.PickLemmas.{made_fresh}
use Rattle.search_rounds.proofs.picks.made_by_fresh.Goals as goal

pub returns-in-None-clause-form : goal.returns-in-None-clause-form
returns-in-None-clause-form c = λ raw e.
    let made : None ≡ user_form (record { hits = c.args.deed.now.hit ∷ []; lacks = [] }) = search rules in
    made_fresh (needs_marked c.args.parent.now.req.now) c.args.deed.now.target c.args.deed.now.hit c.args.before.now.value.need raw
    c.users.ensures.normal.each e None made

pub returns-in_ok-exchanged_and-in-Some-clause-form : goal.returns-in_ok-exchanged_and-in-Some-clause-form
returns-in_ok-exchanged_and-in-Some-clause-form c = λ raw e.
    let made : Some c.in-Some.admin.value.need ≡ user_form (record { hits = c.args.deed.now.hit ∷ []; lacks = [] }) = search rules in
    ap Some c.in_ok-exchanged_and-in-Some.ensures.needs
    ∙ made_fresh (needs_marked c.args.parent.now.req.now) c.args.deed.now.target c.args.deed.now.hit c.args.before.now.value.need raw
    c.users.ensures.normal.each e (Some c.in-Some.admin.value.need) made

pub returns-in_ok-exchanged_and-in-Some-clause-marks : goal.returns-in_ok-exchanged_and-in-Some-clause-marks
returns-in_ok-exchanged_and-in-Some-clause-marks c =
    let own : IsOwnMark c.args.gathering.now.order c.in-Some.admin.value = search rules in
    c.in_ok-exchanged_and-in-Some.ensures.marks c.args.gathering.now.order c.requires.marks c.requires.before own
