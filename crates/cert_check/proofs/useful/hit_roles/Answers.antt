use Rattle.std.proofs.Common.{ℕ, List, ◌≡◌, ◌∙◌, Some, sym, ap, refl}
use Rattle.std.specs.Prelude.{slice_get}
use Rattle.list_words.proofs.GetLemmas.{get_at}
use Rattle.role_order.specs.Roles.{has_role}
use Rattle.cert_check.proofs.UsefulLemmas.{joined_more}
use Rattle.cert_check.proofs.useful.hit_roles.Goals as goal

-- one hit more
pub loop-hit-preserved : goal.loop-hit-preserved
loop-hit-preserved c = λ role.
    let hits = c.args.hits.now in
    let hit = c.hit-item.result in
    let here : slice_get hits c.loop-hit.hit-index ≡ Some hit
    = get_at hits c.loop-hit.hit-index hit c.loop-hit-test.true ∙ ap Some (sym c.hit-item.is) in
    ap (λ (set : List ℕ). has_role set role) c.join-all.ensures
    ∙ joined_more has_role hits c.loop-hit.hit-index hit c.loop-hit.all hit role here (c.loop-hit.invariant role) refl
