use Rattle.std.proofs.Common.{◌≡◌, ◌∙◌, ap, sym}
use Rattle.arbac_laws.specs.NormalForms.{normal_form}
use Rattle.arbac_laws.specs.Views.{needs_of}
use Rattle.req_core.specs.Answers.{form_in}
use Rattle.rule_prune.proofs.OutsideLemmas.{as_list, one_listed}
use Rattle.rule_prune.proofs.outside.one_hit.Goals.{in-Some+in_ok-push, in_default}
use Rattle.rule_prune.proofs.outside.one_hit.Goals as goal

-- the one user's normal form is put into the list, if there is one
pub returns : goal.returns
returns c =
    let raw = needs_of c.in_ok-one_user.field-0.items in
    let made : form_in c.in_ok-form.field-0 ≡ normal_form raw = rw c.deref.ensures.value at c.in_ok-form.ensures.form in
    let listed = one_listed c.args.hit raw c.in_ok-form.field-0 c.in_ok-one_user.ensures made in
    elim c.match-branch-3.branch [
      | in-Some+in_ok-push w ↦ rw (w.list-is, w.in_ok-push.ensures.items, c.new-list.ensures.items) (ap as_list (sym w.in-Some.is) ∙ listed)
      | in_default w ↦ rw (w.list-is, c.new-list.ensures.items) (ap as_list (sym w.in_default.is) ∙ listed)
    ]
