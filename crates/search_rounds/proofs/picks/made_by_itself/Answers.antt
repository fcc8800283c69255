use Rattle.std.proofs.Common.{◌≡◌, ◌∙◌, Some, None, ap, rules}
use Rattle.arbac_laws.specs.NormalForms.{IsNormalNeed}
use Rattle.arbac_laws.specs.PreImages.{add_hit}
use Rattle.req_core.specs.Forms.{user_form}
use Rattle.shared_reqs.specs.Shared.{IsOwnMark, needs_marked}
use Rattle.search_rounds.proofs.PickLemmas.{length_marked, made_itself}
use Rattle.search_rounds.proofs.picks.made_by_itself.Goals as goal

pub returns-in-None-clause-form : goal.returns-in-None-clause-form
returns-in-None-clause-form c = λ raw e.
    let normal : IsNormalNeed c.args.before.now.value.need = search rules in
    let made : None ≡ user_form (add_hit c.args.deed.now.hit c.args.before.now.value.need) = search rules in
    made_itself (needs_marked c.args.parent.now.req.now) c.args.deed.now.target c.args.deed.now.hit c.args.before.now.value.need raw
    c.users.ensures.normal.each normal (length_marked c.args.parent.now.req.now c.args.deed.now.target c.requires.target) e None made

pub returns-in_ok-exchanged-in-Some-clause-form : goal.returns-in_ok-exchanged-in-Some-clause-form
returns-in_ok-exchanged-in-Some-clause-form c = λ raw e.
    let normal : IsNormalNeed c.args.before.now.value.need = search rules in
    let made : Some c.in-Some.both.value.need ≡ user_form (add_hit c.args.deed.now.hit c.args.before.now.value.need) = search rules in
    ap Some c.in_ok-exchanged-in-Some.ensures.needs
    ∙ made_itself (needs_marked c.args.parent.now.req.now) c.args.deed.now.target c.args.deed.now.hit c.args.before.now.value.need raw
    c.users.ensures.normal.each normal (length_marked c.args.parent.now.req.now c.args.deed.now.target c.requires.target) e
    (Some c.in-Some.both.value.need) made

pub returns-in_ok-exchanged-in-Some-clause-marks : goal.returns-in_ok-exchanged-in-Some-clause-marks
returns-in_ok-exchanged-in-Some-clause-marks c =
    let own : IsOwnMark c.args.gathering.now.order c.in-Some.both.value = search rules in
    c.in_ok-exchanged-in-Some.ensures.marks c.args.gathering.now.order c.requires.marks own
