use Rattle.std.proofs.Common.{length, refl}
use Rattle.role_order.specs.Graph.{AreEdges}
use Rattle.search_laws.specs.Candidates.{next_candidates}
use Rattle.search_rounds.specs.Keeping.{Gathers}
use Rattle.search_rounds.specs.Views.{entries_of}
use Rattle.back_search.specs.Stops.{search_of}
use Rattle.back_search.proofs.SearchLemmas.{made_from, next_are_normal}
use Rattle.back_search.proofs.searching.next_round.Goals as goal

-- what was gathered are the pre-images of what is taken now
pub returns-clause-round : goal.returns-clause-round
returns-clause-round c =
    let s = search_of c.args.task.now in
    let list = entries_of c.args.recorded.now.items in
    let all = next_candidates s.rules list c.args.taken in
    let gathers : Gathers c.args.gathering.now c.gather_batch.new.gathering all = rw c.deref.ensures.value at c.in_ok-gather_batch.ensures in
    let made = made_from s c.args.gathering.now c.gather_batch.new.gathering list all c.requires.between gathers in
    let ends : AreEdges (length s.rules.order.names) s.rules.order.edges = rw (c.order.ensures.order, c.policy.ensures) at c.is_order.ensures.ends in
    c.in_ok-stop.ensures.round s all refl refl made.known (next_are_normal s ends list c.args.taken c.requires.list) made.keeps

pub returns-clause-between : goal.returns-clause-between
returns-clause-between c =
    let s = search_of c.args.task.now in
    let list = entries_of c.args.recorded.now.items in
    let all = next_candidates s.rules list c.args.taken in
    let gathers : Gathers c.args.gathering.now c.gather_batch.new.gathering all = rw c.deref.ensures.value at c.in_ok-gather_batch.ensures in
    let made = made_from s c.args.gathering.now c.gather_batch.new.gathering list all c.requires.between gathers in
    let ends : AreEdges (length s.rules.order.names) s.rules.order.edges = rw (c.order.ensures.order, c.policy.ensures) at c.is_order.ensures.ends in
    c.in_ok-stop.ensures.between s all refl refl made.order made.known (next_are_normal s ends list c.args.taken c.requires.list) made.keeps
