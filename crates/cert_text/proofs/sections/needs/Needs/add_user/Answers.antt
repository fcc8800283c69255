use Rattle.std.proofs.Common.{◌≡◌, ◌∙◌, ◌-◌, ap, sym, subst, arith, Option, Some}
use Rattle.std.specs.Prelude.{slice_get}
use Rattle.list_words.proofs.GetLemmas.{get_at}
use Rattle.arbac_policy.specs.declared.conjunct.Conjunct.{Conjunct}
use Rattle.cert_text.specs.Views.{TellsUser}
use Rattle.cert_text.proofs.SectionLemmas.{user_added}
use Rattle.cert_text.proofs.sections.needs.Needs.add_user.Goals as goal

pub returns : goal.returns
returns c =
    let needs = c.args.self.now.needs.items in
    let at = c.len-count.result - 1 in
    let old = c.index_mut.result.now in
    let here : slice_get needs at ≡ Some old = get_at needs at old (omega (arith, c.if-count-eq0.false, c.len-count.ensures)) ∙ ap Some (sym c.index_mut.ensures.value) in
    λ names hits lacks tells. user_added names hits lacks needs at old c.push_user.new.need c.in-Some.user
    (omega (arith, c.if-count-eq0.false, c.len-count.ensures)) here c.in_ok-push_user.ensures.users
    (subst (λ (user : Option Conjunct). TellsUser names user hits lacks) c.in-Some.is tells)
