use Rattle.std.proofs.Common.{length}
use Rattle.role_order.specs.Graph.{AreEdges}
use Rattle.back_search.specs.Answers.{search_for}
use Rattle.back_search.proofs.ShowingLemmas.{answer_shows}
use Rattle.back_search.proofs.searching.search.Goals as goal

-- the outcome of the rounds shows it
pub returns-clause-shows : goal.returns-clause-shows
returns-clause-shows g c barriers =
    let s = search_for c.args.prepared.now c.args.profiles.now c.args.goal.now c.args.barriers.now c.args.limit in
    let edges : AreEdges (length s.rules.order.names) s.rules.order.edges = rw (c.order.ensures.order, c.policy.ensures) at c.is_order.ensures.ends in
    answer_shows s edges barriers c.in_ok-outcome.outcome c.in_ok-outcome.ensures
