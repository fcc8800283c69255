use Rattle.std.proofs.Common.{◌≡◌, ◌<◌, ◌≤◌, ◌+◌, ◌∙◌, length, List, ap, subst, arith, sym, Some, None}
use Rattle.std.proofs.lemmas.List.{length-map}
use Rattle.std.specs.Prelude.{min}
use Rattle.arbac_laws.specs.Recorded.{Entry}
use Rattle.search_laws.specs.Candidates.{batch, next_candidates}
use Rattle.search_laws.specs.Rounds.{Round, goes_on}
use Rattle.search_rounds.specs.Views.{entries_of, entry_of, HaveOwnMarks}
use Rattle.back_search.specs.Stops.{search_of, walk_of, outcome_of, IfGoesOn, IsBetween}
use Rattle.back_search.proofs.SearchLemmas.{IsGoing, going_on, going_ends, going_closed, stop_ends}
use Rattle.back_search.proofs.searching.later_rounds.Goals as goal

-- the round that stopped ends the search
pub returns-in-Some-clause-comes : goal.returns-in-Some-clause-comes
returns-in-Some-clause-comes g c =
    let s = search_of c.args.task.now in
    let now = entries_of c.loop-taken.recorded.items in
    let after = entries_of c.next_round.new.recorded.items in
    let long = length-map c.loop-taken.recorded.items entry_of in
    let some : c.loop-taken.taken < length now = let test = c.loop-taken-test.true in let len = c.len.ensures in omega (arith, long, test, len) in
    going_ends s (entries_of c.args.recorded.now.items) c.loop-taken.gathering now c.loop-taken.taken (outcome_of (Some c.in-Some.stop) after)
    (walk_of c.in_ok-stop.field-0 after) c.loop-taken.invariant.0 some c.in_ok-stop.ensures.round
    (ap (λ stop. walk_of stop after) c.in-Some.is ∙ stop_ends c.in-Some.stop after)

-- a round that goes on takes some
pub loop-taken-preserved : goal.loop-taken-preserved
loop-taken-preserved g c =
    let s = search_of c.args.task.now in
    let first = entries_of c.args.recorded.now.items in
    let now = entries_of c.loop-taken.recorded.items in
    let after = entries_of c.next_round.new.recorded.items in
    let long = length-map c.loop-taken.recorded.items entry_of in
    let some : c.loop-taken.taken < length now = let test = c.loop-taken-test.true in let len = c.len.ensures in omega (arith, long, test, len) in
    let none : c.in_ok-stop.field-0 ≡ None = c.in_default.is in
    let round : Round s now (next_candidates s.rules now c.loop-taken.taken) (goes_on after) =
    subst (λ stop. Round s now (next_candidates s.rules now c.loop-taken.taken) (walk_of stop after)) none c.in_ok-stop.ensures.round in
    let between : IsBetween s c.next_round.new.gathering after =
    subst (λ stop. IfGoesOn stop (IsBetween s c.next_round.new.gathering after)) none c.in_ok-stop.ensures.between in
    let going = going_on s first c.loop-taken.gathering c.next_round.new.gathering now after c.loop-taken.taken c.loop-taken.invariant.0 some round between in
    let all : length now ≡ c.len-count.result = let len = c.len-count.ensures in omega (arith, long, len) in
    let taken : min (c.loop-taken.taken + batch) (length now) ≡ c.min-taken.result =
    ap (min (c.loop-taken.taken + batch)) all ∙ sym c.min-taken.ensures in
    (subst (IsGoing s first c.next_round.new.gathering after) taken going, c.in_ok-stop.ensures.marks)

-- nothing is left to take
pub returns-clause-comes : goal.returns-clause-comes
returns-clause-comes g c =
    let now = entries_of c.loop-taken.recorded.items in
    let long = length-map c.loop-taken.recorded.items entry_of in
    let all : length now ≤ c.loop-taken.taken = let test = c.loop-taken-test.false in let len = c.len.ensures in omega (arith, long, test, len) in
    going_closed (search_of c.args.task.now) (entries_of c.args.recorded.now.items) c.loop-taken.gathering now c.loop-taken.taken c.loop-taken.invariant.0 all
