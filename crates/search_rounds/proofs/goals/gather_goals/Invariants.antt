use Rattle.std.proofs.Common.{drop, map}
use Rattle.arbac_policy.specs.Truth.{term_of}
use Rattle.arbac_laws.specs.Obligations.{flat_places}
use Rattle.arbac_laws.specs.Recorded.{of_goal}
use Rattle.req_core.specs.Answers.{form_in}
use Rattle.search_laws.specs.Candidates.{as_candidate, goal_candidates}
use Rattle.search_rounds.specs.Listing.{GoesOn}
use Rattle.search_rounds.proofs.goals.gather_goals.Given as goal

abbrev pub invariant-loop-number : goal.invariant-loop-number
invariant-loop-number l =
    GoesOn l.fn.gathering l.gathering
    (flat_places (λ number form. as_candidate (of_goal number) form) l.number (drop l.number (map form_in l.form-items)))
    (goal_candidates l.prepared (map term_of l.goal))
