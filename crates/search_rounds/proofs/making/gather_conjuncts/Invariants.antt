use Rattle.std.proofs.Common.{drop}
use Rattle.role_order.specs.Reach.{seniors_of}
use Rattle.arbac_laws.specs.Obligations.{flat, flat_places}
use Rattle.arbac_laws.specs.Views.{needs_of}
use Rattle.search_rounds.specs.Making.{gives, by_role}
use Rattle.search_rounds.specs.Listing.{parent_needs, GoesOn}
use Rattle.search_rounds.proofs.making.gather_conjuncts.Given as goal

abbrev pub invariant-loop-place : goal.invariant-loop-place
invariant-loop-place l =
    GoesOn l.fn.gathering l.gathering
    (flat_places (λ place conjunct. flat (by_role l.work.prepared.now l.work.parent.number (gives l.rule place conjunct)
    (seniors_of l.work.prepared.now.order l.admin) (parent_needs l.work)) l.roles) l.place (drop l.place (needs_of l.conjuncts)))
    (flat_places (λ place conjunct. flat (by_role l.work.prepared.now l.work.parent.number (gives l.rule place conjunct)
    (seniors_of l.work.prepared.now.order l.admin) (parent_needs l.work)) l.roles) 0 (needs_of l.conjuncts))
