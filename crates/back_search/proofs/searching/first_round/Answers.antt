use Rattle.std.proofs.Common.{refl}
use Rattle.search_laws.specs.Candidates.{goal_candidates}
use Rattle.search_laws.proofs.CandidateLemmas.{goals_normal}
use Rattle.search_rounds.specs.Views.{entries_of}
use Rattle.back_search.specs.Stops.{search_of, IsBetween}
use Rattle.back_search.proofs.SearchLemmas.{made_from}
use Rattle.back_search.proofs.searching.first_round.Goals as goal

-- what was gathered are the goal's candidates
pub returns-clause-round : goal.returns-clause-round
returns-clause-round c =
    let s = search_of c.args.task.now in
    let all = goal_candidates s.rules s.goal in
    let list = entries_of c.args.recorded.now.items in
    let between : IsBetween s c.args.gathering.now list = rw c.requires.none c.requires.between in
    let made = made_from s c.args.gathering.now c.gather_goals.new.gathering list all between c.in_ok-gather_goals.ensures in
    let round = c.in_ok-stop.ensures.round s all refl refl made.known (goals_normal s.rules s.goal) made.keeps in
    rw c.requires.none at round

pub returns-clause-between : goal.returns-clause-between
returns-clause-between c =
    let s = search_of c.args.task.now in
    let all = goal_candidates s.rules s.goal in
    let list = entries_of c.args.recorded.now.items in
    let between : IsBetween s c.args.gathering.now list = rw c.requires.none c.requires.between in
    let made = made_from s c.args.gathering.now c.gather_goals.new.gathering list all between c.in_ok-gather_goals.ensures in
    c.in_ok-stop.ensures.between s all refl refl made.order made.known (goals_normal s.rules s.goal) made.keeps
