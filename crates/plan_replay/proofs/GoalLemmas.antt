-- A transversal of conditions and users is a list of users who meet the goal.
use Rattle.std.proofs.Common.{ℕ, List, length}
use Rattle.arbac_policy.specs.Truth.{Term, user, Satisfies}
use Rattle.hall_match.specs.Joined.{IsLeastTransversal, JoinsAt}
use Rattle.hall_match.proofs.JoinedLemmas.{transversal_places, places_transversal}
use Rattle.plan_replay.specs.GoalLists.{AreLeast}

-- the set satisfies the condition
abbrev pub MeetsOne : List (ℕ × ℕ) → Term → List ℕ → Type 0
MeetsOne edges cond set = Satisfies user edges set cond

-- the least transversal of conditions and users is the least list of users who meet the goal
pub least_meets : (edges : List (ℕ × ℕ)) (goal : List Term) (sets : List (List ℕ)) (list : List ℕ)
    → IsLeastTransversal (JoinsAt (MeetsOne edges) goal sets) (length goal) (length sets) list → AreLeast edges goal sets list
least_meets edges goal sets list m = record {
  meet = transversal_places (MeetsOne edges) goal sets list m.transversal;
  least = λ other meet. m.least other (places_transversal (MeetsOne edges) goal sets other meet);
}
