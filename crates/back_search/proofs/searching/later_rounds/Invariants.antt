use Rattle.std.proofs.Common.{◌-◌}
use Rattle.search_rounds.specs.Views.{entries_of, HaveOwnMarks}
use Rattle.back_search.specs.Stops.{search_of}
use Rattle.back_search.proofs.SearchLemmas.{IsGoing}
use Rattle.back_search.proofs.searching.later_rounds.Given as goal

abbrev pub invariant-loop-taken : goal.invariant-loop-taken
invariant-loop-taken g l = IsGoing (search_of l.task) (entries_of l.initial.recorded.items) l.gathering (entries_of l.recorded.items) l.taken
    × HaveOwnMarks l.task.prepared.now.order l.recorded.items

-- each round takes some, and no more than may be recorded
abbrev pub decreases-loop-taken : goal.decreases-loop-taken
decreases-loop-taken g l = l.task.limit - l.taken
