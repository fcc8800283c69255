use Rattle.std.proofs.Common.{ℕ, List, ◌≡◌, ◌∙◌, Some, refl, sym, ap}
use Rattle.std.specs.Prelude.{slice_get}
use Rattle.role_order.specs.Roles.{has_role}
use Rattle.arbac_laws.specs.Needs.{Need}
use Rattle.shared_reqs.specs.Shared.{MarkedNeed, needs_shared, marked_of}
use Rattle.list_words.proofs.GetLemmas.{get_map}
use Rattle.search_rounds.specs.Listing.{is_in_hits}
use Rattle.search_rounds.proofs.ListingLemmas.{item_is}
use Rattle.search_rounds.proofs.UsefulLemmas.{joined_more}
use Rattle.search_rounds.proofs.useful.useful_roles.Goals as goal

-- one user more
pub loop-user-preserved : goal.loop-user-preserved
loop-user-preserved c =
    let users = c.args.users.now in
    let at = c.loop-user.user-index in
    let need = c.user-user.result.now in
    let one = c.user-item.result in
    let there : slice_get users at ≡ Some one = item_is users users at one refl c.loop-user-test.true c.user-item.is in
    let here : slice_get (needs_shared users) at ≡ Some need =
    get_map (λ (u : MarkedNeed). u.need) (marked_of users) at one.value (get_map (λ u. u.value) users at one there)
    ∙ ap Some (sym (c.user-user.ensures.need ∙ ap (λ (u : MarkedNeed). u.need) c.deref.ensures)) in
    record {
      given = λ role.
          ap (λ (set : List ℕ). has_role set role) c.join-given.ensures
          ∙ joined_more is_in_hits (needs_shared users) at need c.loop-user.given c.hit_roles.result role here
          (c.loop-user.invariant.given role) (c.hit_roles.ensures role);
      taken = λ role.
          ap (λ (set : List ℕ). has_role set role) c.join-taken.ensures
          ∙ joined_more (λ (one : Need). has_role one.lacks) (needs_shared users) at need c.loop-user.taken c.lacks.result.now role here
          (c.loop-user.invariant.taken role) (ap (λ (set : List ℕ). has_role set role) c.lacks.ensures);
    }
