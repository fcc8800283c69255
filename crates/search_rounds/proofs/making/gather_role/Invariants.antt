use Rattle.std.proofs.Common.{drop}
use Rattle.arbac_laws.specs.Obligations.{flat_places}
use Rattle.search_rounds.specs.Making.{way_of, by_target}
use Rattle.search_rounds.specs.Listing.{parent_needs, of_acts, GoesOn}
use Rattle.search_rounds.proofs.making.gather_role.Given as goal

abbrev pub invariant-loop-target : goal.invariant-loop-target
invariant-loop-target l =
    GoesOn l.fn.gathering l.gathering
    (flat_places (by_target l.work.prepared.now l.work.parent.number (way_of l.acts.change) l.acts.hit (parent_needs l.work) l.role) l.target
    (drop l.target (parent_needs l.work)))
    (of_acts l.work l.acts l.role)
