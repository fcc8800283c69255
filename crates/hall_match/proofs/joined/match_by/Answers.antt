use Rattle.std.proofs.Common.{ℕ, List, length, subst}
use Rattle.hall_match.specs.Matchings.{IsMatching, IsLeast, IsDeficient}
use Rattle.hall_match.specs.Joined.{AreJoined}
use Rattle.hall_match.specs.Outcome.{IfMatched, IfDeficient}
use Rattle.hall_match.proofs.JoinedLemmas.{joined_within, of_pairs, matched_of, deficient_of}
use Rattle.hall_match.proofs.joined.match_by.Goals as goal

-- joined pairs are below both numbers
pub match_all-requires : goal.match_all-requires
match_all-requires g c =
    let joins = g.E.Edges.joins c.args.edges.now in
    let are : AreJoined joins c.in_ok-items.items (length c.args.capacities.now) c.in_ok-pairs.pairs.items =
    subst (λ n. AreJoined joins c.in_ok-items.items n c.in_ok-pairs.pairs.items) c.in_ok-places.ensures c.in_ok-pairs.ensures in
    rw c.deref.ensures.value (joined_within joins c.in_ok-items.items c.args.capacities.now c.in_ok-pairs.pairs.items are)

-- it is the least matching of the listed pairs
pub returns-clause-matched : goal.returns-clause-matched
returns-clause-matched g c =
    let read : IfMatched c.in_ok-answer.answer (IsLeast c.in_ok-items.items c.args.capacities.now c.in_ok-pairs.pairs.items) =
    rw c.deref.ensures.value at c.in_ok-answer.ensures.matched in
    matched_of c.in_ok-answer.answer _ _
    (λ list least. of_pairs (g.E.Edges.joins c.args.edges.now) c.in_ok-items.items c.in_ok-places.places c.args.left
    (length c.args.capacities.now) c.in_ok-pairs.pairs.items
    (λ n pairs. IsLeast n c.args.capacities.now pairs list) c.in_ok-items.ensures c.in_ok-places.ensures c.in_ok-pairs.ensures least) read

-- it is a deficient set of the listed pairs
pub returns-clause-deficient : goal.returns-clause-deficient
returns-clause-deficient g c =
    let read : IfDeficient c.in_ok-answer.answer (IsDeficient c.in_ok-items.items c.args.capacities.now c.in_ok-pairs.pairs.items) =
    rw c.deref.ensures.value at c.in_ok-answer.ensures.deficient in
    deficient_of c.in_ok-answer.answer _ _
    (λ items fewer. of_pairs (g.E.Edges.joins c.args.edges.now) c.in_ok-items.items c.in_ok-places.places c.args.left
    (length c.args.capacities.now) c.in_ok-pairs.pairs.items
    (λ n pairs. IsDeficient n c.args.capacities.now pairs items) c.in_ok-items.ensures c.in_ok-places.ensures c.in_ok-pairs.ensures fewer) read

-- the listed pairs have no matching
pub returns-clause-unmatched : goal.returns-clause-unmatched
returns-clause-unmatched g c =
    let read : IfDeficient c.in_ok-answer.answer
    (λ _. (list : List ℕ) → ¬ IsMatching c.in_ok-items.items c.args.capacities.now c.in_ok-pairs.pairs.items list) =
    rw c.deref.ensures.value at c.in_ok-answer.ensures.unmatched in
    deficient_of c.in_ok-answer.answer _ _
    (λ items none. of_pairs (g.E.Edges.joins c.args.edges.now) c.in_ok-items.items c.in_ok-places.places c.args.left
    (length c.args.capacities.now) c.in_ok-pairs.pairs.items
    (λ n pairs. (list : List ℕ)
    → ¬ IsMatching n c.args.capacities.now pairs list) c.in_ok-items.ensures c.in_ok-places.ensures c.in_ok-pairs.ensures none) read
