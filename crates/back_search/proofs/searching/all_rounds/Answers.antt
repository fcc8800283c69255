use Rattle.std.proofs.Common.{◌≤◌, length, [], arith, subst, None}
use Rattle.std.proofs.lemmas.List.{length-map}
use Rattle.search_laws.specs.Candidates.{goal_candidates}
use Rattle.search_laws.specs.Rounds.{Round}
use Rattle.search_rounds.specs.Views.{entries_of, entry_of}
use Rattle.back_search.specs.Stops.{search_of, walk_of}
use Rattle.back_search.proofs.SearchLemmas.{first_list}
use Rattle.back_search.proofs.searching.all_rounds.Goals as goal

-- what the first round recorded is a recorded list, within the limit
pub later_rounds-requires-clause-list : goal.later_rounds-requires-clause-list
later_rounds-requires-clause-list g c κs within =
    let s = search_of c.args.task.now in
    let after = entries_of c.first_round.new.recorded.items in
    (first_list s after
    (subst (λ stop. Round s [] (goal_candidates s.rules s.goal) (walk_of stop after)) c.in_default.is c.in_ok-stop.ensures.round)).0

pub later_rounds-requires-clause-few : goal.later_rounds-requires-clause-few
later_rounds-requires-clause-few g c κs within =
    let s = search_of c.args.task.now in
    let after = entries_of c.first_round.new.recorded.items in
    let few = (first_list s after
    (subst (λ stop. Round s [] (goal_candidates s.rules s.goal) (walk_of stop after)) c.in_default.is c.in_ok-stop.ensures.round)).1 in
    let long = length-map c.first_round.new.recorded.items entry_of in
    omega (arith, few, long)
