use Rattle.std.proofs.Common.{ℕ, List, length}
use Rattle.hall_match.specs.Joined.{JoinsAt, OfPairs}
use Rattle.hall_match.specs.Matchings.{IsLeast, IsMatching}
use Rattle.arbac_laws.specs.Serving.{counts}
use Rattle.cert_needs.specs.Serving.{IsMeeting}
use Rattle.cert_needs.proofs.ServingLemmas.{matched_serves, unmatched_unmet, unserved}
use Rattle.cert_needs.proofs.service.serving.Goals as goal

-- some user is served by no profile
pub returns-then-not-are_served-clause-none : goal.returns-then-not-are_served-clause-none
returns-then-not-are_served-clause-none c =
    unserved c.args.users.now c.args.profiles.now c.are_served.result c.are_served.ensures c.if-not-are_served.true

-- the least matching is the least choice
pub returns-in-Matched-clause-some : goal.returns-in-Matched-clause-some
returns-in-Matched-clause-some c =
    let users = c.args.users.now in
    let profiles = c.args.profiles.now in
    let least : OfPairs (JoinsAt IsMeeting users profiles) (length users) (length (counts profiles))
    (λ pairs. IsLeast (length users) (counts profiles) pairs c.in-Matched.choice.items) =
    rw (c.in-Matched.is, c.deref.ensures.value, c.in_ok-counts.ensures) at c.in_ok-choice.ensures.matched in
    matched_serves users profiles c.in-Matched.choice.items least

-- there is no matching
pub returns-clause-none : goal.returns-clause-none
returns-clause-none c =
    let users = c.args.users.now in
    let profiles = c.args.profiles.now in
    let none : OfPairs (JoinsAt IsMeeting users profiles) (length users) (length (counts profiles))
    (λ pairs. (list : List ℕ) → ¬ IsMatching (length users) (counts profiles) pairs list) =
    rw (c.in-Deficient.is, c.deref.ensures.value, c.in_ok-counts.ensures) at c.in_ok-choice.ensures.unmatched in
    unmatched_unmet users profiles none
