use Rattle.std.proofs.Common.{ℕ, List, ◌≡◌, ◌∙◌, Some, sym, ap}
use Rattle.std.specs.Prelude.{slice_get}
use Rattle.list_words.proofs.GetLemmas.{get_at}
use Rattle.role_order.specs.Roles.{has_role}
use Rattle.arbac_policy.specs.declared.conjunct.Conjunct.{Conjunct}
use Rattle.arbac_laws.specs.Views.{need_of}
use Rattle.cert_check.specs.Passing.{is_of_use, given_by}
use Rattle.cert_check.proofs.UsefulLemmas.{joined_more}
use Rattle.cert_check.proofs.useful.useful_roles.Goals as goal

-- one user more
pub loop-user-preserved : goal.loop-user-preserved
loop-user-preserved c = λ role.
    let users = c.args.users.now in
    let user = c.user-item.result in
    let here : slice_get users c.loop-user.user-index ≡ Some user
    = get_at users c.loop-user.user-index user c.loop-user-test.true ∙ ap Some (sym c.user-item.is) in
    ap (λ (set : List ℕ). has_role set role) c.join-all.ensures
    ∙ joined_more (λ (one : Conjunct) (r : ℕ). is_of_use (given_by c.args.change.now) r (need_of one)) users c.loop-user.user-index user c.loop-user.all
    c.user_roles.result role here (c.loop-user.invariant role) (c.user_roles.ensures role)
