use Rattle.std.proofs.Common.{ℕ, List, length, replicate, Some}
use Rattle.hall_match.specs.Matchings.{IsMatching, IsLeast}
use Rattle.hall_match.specs.Joined.{OfPairs}
use Rattle.hall_match.proofs.JoinedLemmas.{least_ones, none_ones}
use Rattle.hall_match.proofs.joined.matched_transversal.Goals as goal

-- with capacities of one the least matching is the least transversal
pub returns-in-Matched-clause-least : goal.returns-in-Matched-clause-least
returns-in-Matched-clause-least g c =
    let joins = g.E.Edges.joins c.args.edges.now in
    let ones = replicate c.args.places (Some 1) in
    let least : OfPairs joins c.args.left (length ones) (λ pairs. IsLeast c.args.left ones pairs c.in-Matched.list.items) =
    rw (c.in-Matched.is, c.deref.ensures.value, c.in_ok-ones.ensures) at c.in_ok-list.ensures.matched in
    least_ones joins c.args.left c.args.places c.in-Matched.list.items least

-- a transversal would be a matching
pub returns-clause-none : goal.returns-clause-none
returns-clause-none g c =
    let joins = g.E.Edges.joins c.args.edges.now in
    let ones = replicate c.args.places (Some 1) in
    let none : OfPairs joins c.args.left (length ones) (λ pairs. (list : List ℕ) → ¬ IsMatching c.args.left ones pairs list) =
    rw (c.in-Deficient.is, c.deref.ensures.value, c.in_ok-ones.ensures) at c.in_ok-list.ensures.unmatched in
    none_ones joins c.args.left c.args.places none
