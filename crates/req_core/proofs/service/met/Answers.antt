use Rattle.std.proofs.Common.{rules, ℕ, List, length}
use Rattle.arbac_policy.specs.Goals.{AreUsers}
use Rattle.arbac_laws.specs.Closed.{IsUnmet}
use Rattle.arbac_laws.specs.Needs.{MeetsBy}
use Rattle.hall_match.specs.Matchings.{IsDeficient, IsLeast, IsMatching}
use Rattle.hall_match.specs.Joined.{OfPairs}
use Rattle.arbac_laws.specs.Serving.{AreUnserved, ServesLeast, counts}
use Rattle.arbac_laws.proofs.ServeLemmas.{ServedAt, deficient_unserved, least_serves, none_unmet, serves_users}
use Rattle.req_core.proofs.service.met.Goals as goal

-- the least matching is the least choice
pub returns-in-Matched-clause-choice : goal.returns-in-Matched-clause-choice
returns-in-Matched-clause-choice c =
    let profiles = c.args.profiles.now in
    let needs = c.args.req.now in
    let least : OfPairs (ServedAt profiles needs) (length needs) (length (counts profiles))
    (λ pairs. IsLeast (length needs) (counts profiles) pairs c.in-Matched.choice.items) =
    rw (c.in-Matched.is, c.deref.ensures.value, c.in_ok-counts.ensures, c.users-users.ensures.users) at c.in_ok-choice.ensures.matched in
    let serves : ServesLeast profiles needs c.in-Matched.choice.items = least_serves profiles needs c.in-Matched.choice.items least in
    search (rules, serves)

-- users drawn by the choice are met in order
pub returns-in-Matched-clause-users : goal.returns-in-Matched-clause-users
returns-in-Matched-clause-users c =
    let profiles = c.args.profiles.now in
    let needs = c.args.req.now in
    let least : OfPairs (ServedAt profiles needs) (length needs) (length (counts profiles))
    (λ pairs. IsLeast (length needs) (counts profiles) pairs c.in-Matched.choice.items) =
    rw (c.in-Matched.is, c.deref.ensures.value, c.in_ok-counts.ensures, c.users-users.ensures.users) at c.in_ok-choice.ensures.matched in
    let serves = least_serves profiles needs c.in-Matched.choice.items least in
    let users : (users : List (List ℕ)) × AreUsers profiles c.in-Matched.choice.items users × MeetsBy users needs (λ i. i) =
    serves_users profiles needs c.in-Matched.choice.items serves.serves in
    search (rules, users)

-- a deficient set is users that the profiles can not serve together
pub returns-clause-apart : goal.returns-clause-apart
returns-clause-apart c =
    let profiles = c.args.profiles.now in
    let needs = c.args.req.now in
    let deficient : OfPairs (ServedAt profiles needs) (length needs) (length (counts profiles))
    (λ pairs. IsDeficient (length needs) (counts profiles) pairs c.in-Deficient.items.items) =
    rw (c.in-Deficient.is, c.deref.ensures.value, c.in_ok-counts.ensures, c.users-users.ensures.users) at c.in_ok-choice.ensures.deficient in
    let unserved : AreUnserved profiles needs c.in-Deficient.items.items = deficient_unserved profiles needs c.in-Deficient.items.items deficient in
    search (rules, unserved)

-- drawn users who meet the requirement would be a matching
pub returns-clause-unmet : goal.returns-clause-unmet
returns-clause-unmet c =
    let profiles = c.args.profiles.now in
    let needs = c.args.req.now in
    let none : OfPairs (ServedAt profiles needs) (length needs) (length (counts profiles))
    (λ pairs. (list : List ℕ) → ¬ IsMatching (length needs) (counts profiles) pairs list) =
    rw (c.in-Deficient.is, c.deref.ensures.value, c.in_ok-counts.ensures, c.users-users.ensures.users) at c.in_ok-choice.ensures.unmatched in
    let unmet : IsUnmet profiles needs = none_unmet profiles needs none in
    search (rules, unmet)
