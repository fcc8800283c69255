use Rattle.std.proofs.Common.{ℕ, List, ◌∙◌, ap, refl}
use Rattle.role_order.specs.Roles.{has_role}
use Rattle.search_rounds.proofs.ListingLemmas.{item_is}
use Rattle.search_rounds.proofs.UsefulLemmas.{joined_more}
use Rattle.search_rounds.proofs.useful.hit_roles.Goals as goal

-- one hit more
pub loop-hit-preserved : goal.loop-hit-preserved
loop-hit-preserved c = λ role.
    let hits = c.args.user.now.hits in
    let at = c.loop-hit.hit-index in
    let hit = c.hit-item.result in
    ap (λ (set : List ℕ). has_role set role) c.join-all.ensures
    ∙ joined_more has_role hits at hit c.loop-hit.all hit role
    (item_is hits c.hits-hit-items.result.now at hit c.hits-hit-items.ensures.hits c.loop-hit-test.true c.hit-item.is)
    (c.loop-hit.invariant role) refl
