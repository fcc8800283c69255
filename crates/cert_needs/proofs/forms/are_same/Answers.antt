use Rattle.std.proofs.Common.{◌≡◌, ◌<◌, ◌∙◌, true, false, length, sym, ap, arith, Some}
use Rattle.std.specs.Prelude.{slice_get}
use Rattle.list_words.proofs.GetLemmas.{get_at}
use Rattle.cert_needs.proofs.FormLemmas.{same_there}
use Rattle.cert_needs.proofs.forms.are_same.Goals as goal

-- in equal lists the users at this place would be the same
pub returns-then-not-is_same : goal.returns-then-not-is_same
returns-then-not-is_same c =
    let users = c.args.users.now in
    let others = c.args.others.now in
    let at = c.loop-at.at in
    let user = c.index-users-at.result in
    let other = c.index-others-at.result in
    let here : slice_get users at ≡ Some user = get_at users at user c.loop-at-test.true ∙ ap Some (sym c.index-users-at.is) in
    let less : at < length others = omega (arith, c.loop-at-test.true, c.if-users-others.false) in
    let there : slice_get others at ≡ Some other = get_at others at other less ∙ ap Some (sym c.index-others-at.is) in (
      λ e. absurd (let never : false ≡ true = e in cc),
      λ same.
          let passes = c.is_same.ensures.1 (same_there users others at user other here there same) in
          let fails = c.if-not-is_same.true in cc,
    )
