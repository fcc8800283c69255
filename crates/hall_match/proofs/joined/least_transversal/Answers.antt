use Rattle.std.proofs.Common.{ℕ, ◌≡◌, ◌<◌, length, get_or}
use Rattle.hall_match.specs.Firsts.{AreFirstPlaces, HasNoPlace}
use Rattle.hall_match.proofs.FirstLemmas.{firsts_least, none_first}
use Rattle.hall_match.proofs.joined.least_transversal.Goals as goal

-- some item has no place
pub returns-in_default-clause-none : goal.returns-in_default-clause-none
returns-in_default-clause-none g c =
    let joins = g.E.Edges.joins c.args.edges.now in
    let none : (item : ℕ) × (item < c.args.left) × HasNoPlace joins c.args.places item =
    rw (c.in_default.is, c.in_ok-small.ensures, c.in_ok-small-2.ensures) at c.in_ok-firsts.ensures.none in
    none_first joins c.args.left c.args.places none

-- different least places are the least transversal
pub returns-then-are_different-clause-least : goal.returns-then-are_different-clause-least
returns-then-are_different-clause-least g c =
    let joins = g.E.Edges.joins c.args.edges.now in
    let firsts = c.in-Some.firsts.items in
    let are : AreFirstPlaces joins c.args.places c.args.left firsts =
    rw (c.in-Some.is, c.in_ok-small.ensures, c.in_ok-small-2.ensures) at c.in_ok-firsts.ensures.found in
    let apart : (i j : ℕ) → i < length firsts → j < length firsts → get_or firsts i 0 ≡ get_or firsts j 0 → i ≡ j =
    rw (c.deref.ensures.value) at (c.are_different.ensures c.if-are_different.true) in
    firsts_least joins c.args.left c.args.places firsts are apart
