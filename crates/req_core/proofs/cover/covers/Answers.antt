use Rattle.std.proofs.Common.{ℕ, List, length}
use Rattle.std.proofs.lemmas.Option.{IfSome_then}
use Rattle.arbac_laws.specs.Needs.{CoversNeed}
use Rattle.hall_match.specs.Joined.{IsTransversal, IsLeastTransversal, JoinsAt}
use Rattle.hall_match.proofs.JoinedLemmas.{none_then, none_embeds, transversal_places}
use Rattle.req_core.proofs.cover.covers.Goals as goal

-- the least transversal is a list of places
pub returns-clause-map : goal.returns-clause-map
returns-clause-map c =
    let a = c.args.a.now in
    let b = c.args.b.now in
    IfSome_then c.in_ok-places.places c.in_ok-places.ensures.least (λ list h.
    let least : IsLeastTransversal (JoinsAt CoversNeed a b) (length a) (length b) list.items =
    rw (c.users-users.ensures.users, c.users-others.ensures.users) at h in
    transversal_places CoversNeed a b list.items least.transversal)

-- an injective map would be a transversal
pub returns-clause-none : goal.returns-clause-none
returns-clause-none c =
    let a = c.args.a.now in
    let b = c.args.b.now in
    none_then c.in_ok-places.places c.in_ok-places.ensures.none (λ h.
    let none : (list : List ℕ) → ¬ IsTransversal (JoinsAt CoversNeed a b) (length a) (length b) list =
    rw (c.users-users.ensures.users, c.users-others.ensures.users) at h in
    none_embeds CoversNeed a b none)
