use Rattle.search_rounds.specs.Views.{entries_of, entry_of, origin_of}
use Rattle.back_search.proofs.PlanLemmas.{IsAt, left_of}
use Rattle.back_search.proofs.plan.plan.Given as goal

-- the parents stand before their children
abbrev pub decreases-loop-origin : goal.decreases-loop-origin
decreases-loop-origin l = left_of (origin_of l.origin)

abbrev pub invariant-loop-origin : goal.invariant-loop-origin
invariant-loop-origin l =
    IsAt l.prepared (entries_of l.recorded) (entry_of l.entry) (origin_of l.origin) l.to.items l.acts.items
