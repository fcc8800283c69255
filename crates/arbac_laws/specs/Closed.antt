-- Closed lists of requirements: they show that a question isn't reachable.
use Rattle.std.specs.Prelude.{ℕ, ◌≡◌, List, Some}
use Rattle.list_words.specs.Lists.{IsOneOf}
use Rattle.arbac_policy.specs.declared.profile.Profile.{Profile}
use Rattle.arbac_policy.specs.Truth.{Term}
use Rattle.arbac_policy.specs.Rules.{Rules}
use Rattle.arbac_policy.specs.Goals.{IsDrawn}
use Rattle.arbac_laws.specs.Needs.{Need, Meets, IsCovered, IsPossible}
use Rattle.arbac_laws.specs.Goals.{goal_requirements}
use Rattle.arbac_laws.specs.PreImages.{AssignObligation, WeakObligation, assign_pre_image, weak_pre_image}
use Rattle.arbac_laws.specs.Obligations.{Obligation, obligations, pre_image}

-- no drawn population meets the requirement
abbrev pub IsUnmet : List Profile → List Need → Type 0
IsUnmet profiles needs = (users : List (List ℕ)) → IsDrawn profiles users → ¬ Meets users needs

-- what is possible of the goal requirements, and of the members' pre-images, is covered by some member;
-- no member is met by users that can be drawn
pub record IsClosedList (rules : Rules) (profiles : List Profile) (goal : List Term) (list : List (List Need)) : Type 0 where
  pub goals : (needs : List Need) → IsOneOf (goal_requirements rules.order goal) needs
      → IsPossible needs → IsCovered list needs
  pub pre_images : (needs : List Need) → IsOneOf list needs → (ob : Obligation) → IsOneOf (obligations rules needs) ob
      → (before : List Need) → pre_image rules needs ob ≡ Some before → IsPossible before → IsCovered list before
  pub unmet : (needs : List Need) → IsOneOf list needs → IsUnmet profiles needs

-- the same over obligations in parts, in whatever order
pub record IsClosed (rules : Rules) (profiles : List Profile) (goal : List Term) (list : List (List Need)) : Type 0 where
  pub goals : (needs : List Need) → IsOneOf (goal_requirements rules.order goal) needs
      → IsPossible needs → IsCovered list needs
  pub assigns : (needs : List Need) → IsOneOf list needs → (ob : AssignObligation rules needs)
      → IsPossible (assign_pre_image ob) → IsCovered list (assign_pre_image ob)
  pub revokes : (needs : List Need) → IsOneOf list needs → (ob : WeakObligation rules needs)
      → IsPossible (weak_pre_image ob) → IsCovered list (weak_pre_image ob)
  pub unmet : (needs : List Need) → IsOneOf list needs → IsUnmet profiles needs
