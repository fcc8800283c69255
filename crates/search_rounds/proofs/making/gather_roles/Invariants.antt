use Rattle.arbac_laws.specs.Obligations.{flat}
use Rattle.search_rounds.specs.Listing.{of_acts, GoesOn}
use Rattle.search_rounds.proofs.making.gather_roles.Given as goal

abbrev pub invariant-loop-role : goal.invariant-loop-role
invariant-loop-role l =
    GoesOn l.fn.gathering l.gathering (flat (of_acts l.work l.acts) l.role-iterator) (flat (of_acts l.work l.acts) l.roles)
