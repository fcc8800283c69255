use Rattle.std.proofs.Common.{◌≡◌, ◌∙◌, ◌+◌, ◌-◌, length, ap, sym, subst, arith, Option, Some}
use Rattle.std.specs.Prelude.{slice_get}
use Rattle.list_words.proofs.GetLemmas.{get_at}
use Rattle.arbac_policy.specs.declared.conjunct.Conjunct.{Conjunct}
use Rattle.cert_text.specs.Views.{TellsUser}
use Rattle.cert_text.proofs.SectionLemmas.{some_recorded, step_user_added}
use Rattle.cert_text.proofs.sections.steps.Steps.add_user.Goals as goal

pub returns-in_ok-push_user-in-None : goal.returns-in_ok-push_user-in-None
returns-in_ok-push_user-in-None c =
    let recorded = c.args.self.now.recorded.items in
    let at = c.len-count.result - 1 in
    let old = c.index_mut.result.now in
    -- no step stands behind the recorded ones, so some are recorded
    let some = some_recorded c.is_none.result c.len-count.result c.args.self.now.next c.else-is_none.either c.is_none.ensures c.in-None.is in
    let last : at + 1 ≡ length recorded = omega (arith, some, c.len-count.ensures) in
    let here : slice_get recorded at ≡ Some old = get_at recorded at old (omega arith) ∙ ap Some (sym c.index_mut.ensures.value) in
    rw c.in-None.is (λ names hits lacks tells. step_user_added names hits lacks c.args.self.now.limit recorded at old
    c.push_user-in-None.new.need c.in-Some.user last here c.in_ok-push_user-in-None.ensures.users
    (subst (λ (user : Option Conjunct). TellsUser names user hits lacks) c.in-Some.is tells))
