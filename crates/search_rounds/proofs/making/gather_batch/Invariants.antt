use Rattle.std.proofs.Common.{drop, take, ◌-◌}
use Rattle.arbac_laws.specs.Obligations.{flat_places}
use Rattle.search_laws.specs.Candidates.{parent_candidates, next_candidates}
use Rattle.search_rounds.specs.Views.{entries_of}
use Rattle.search_rounds.specs.Listing.{GoesOn}
use Rattle.search_rounds.proofs.making.gather_batch.Given as goal

abbrev pub invariant-loop-place : goal.invariant-loop-place
invariant-loop-place l =
    GoesOn l.fn.gathering l.gathering
    (flat_places (parent_candidates l.prepared) l.place (take (l.end - l.place) (drop l.place (entries_of l.recorded))))
    (next_candidates l.prepared (entries_of l.recorded) l.taken)
