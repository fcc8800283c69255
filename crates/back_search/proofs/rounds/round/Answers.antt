use Rattle.search_rounds.specs.Views.{entries_of}
use Rattle.back_search.specs.Answers.{entries_in}
use Rattle.back_search.proofs.RoundLemmas.{round_told}
use Rattle.back_search.proofs.rounds.round.Goals as goal

-- barriers and recorded requirements were known, and nothing was made before
pub returns-clause-unbeaten : goal.returns-clause-unbeaten
returns-clause-unbeaten g c =
    round_told c.args.prepared.now c.policy.result.now c.policy.ensures
    c.order-order.result.now c.order-order.ensures.order c.is_order.ensures
    (entries_in c.args.recorded.now) (entries_of c.in_ok-parents.parents.items) c.in_ok-parents.ensures.entries c.in_ok-parents.ensures.normal
    c.args.barriers.now c.in_ok-gathering.gathering c.in_ok-gathering.ensures.known
    _ (rw c.deref.ensures.value at c.in_ok-know.ensures)
    c.args.from _ (rw c.deref-2.ensures.value at c.in_ok-gather_batch.ensures)
    (entries_of c.take-kept.result.items) c.take-kept.ensures.kept
    (entries_of c.in_ok-list.list.items) c.in_ok-list.ensures.unbeaten
    (entries_in c.in_ok-entries.field-0.items) c.in_ok-entries.ensures
