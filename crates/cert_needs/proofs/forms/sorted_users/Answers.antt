use Rattle.std.proofs.Common.{◌≡◌, ◌-◌, ◌∙◌, ap, sym, arith, Some}
use Rattle.std.specs.Prelude.{slice_get}
use Rattle.list_words.proofs.GetLemmas.{get_at}
use Rattle.arbac_laws.specs.Views.{need_of, needs_of}
use Rattle.cert_needs.proofs.FormLemmas.{sorted_more}
use Rattle.cert_needs.proofs.forms.sorted_users.Goals as goal

-- one user more is put in its place
pub loop-at-preserved : goal.loop-at-preserved
loop-at-preserved c =
    let users = c.args.users.now in
    let at = c.loop-at.at - 1 in
    let one = c.index-users-at.result in
    let here : slice_get users at ≡ Some one =
    get_at users at one (omega (arith, c.loop-at.auto.at, c.loop-at-test.true)) ∙ ap Some (sym c.index-users-at.is) in
    sorted_more users at c.loop-at.at one (need_of c.in_ok-user.user) (needs_of c.loop-at.form.items) (needs_of c.insert_user.new.users.items)
    (omega (arith, c.loop-at-test.true)) here c.in_ok-user.ensures c.in_ok-insert_user.ensures c.loop-at.invariant
