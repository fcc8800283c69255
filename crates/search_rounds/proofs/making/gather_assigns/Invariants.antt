use Rattle.std.proofs.Common.{drop}
use Rattle.arbac_laws.specs.Obligations.{flat_places}
use Rattle.search_rounds.specs.Making.{by_assign}
use Rattle.search_rounds.specs.Listing.{parent_needs, GoesOn}
use Rattle.search_rounds.proofs.making.gather_assigns.Given as goal

abbrev pub invariant-loop-place : goal.invariant-loop-place
invariant-loop-place l =
    GoesOn l.fn.gathering l.gathering
    (flat_places (by_assign l.work.prepared.now l.work.parent.number (parent_needs l.work)) l.place (drop l.place l.work.prepared.now.assign))
    (flat_places (by_assign l.work.prepared.now l.work.parent.number (parent_needs l.work)) 0 l.work.prepared.now.assign)
