-- Drawn populations, goals, and what can be reached.
use Rattle.std.specs.Prelude.{ℕ, ◌≡◌, ◌≤◌, ◌+◌, ◌==◌, if◌then◌else◌, List, [], ◌∷◌, slice_get, Some}
use Rattle.arbac_policy.specs.declared.profile.Profile.{Profile}
use Rattle.arbac_policy.specs.declared.act.Act.{Act}
use Rattle.arbac_policy.specs.Truth.{Term, user, Satisfies}
use Rattle.arbac_policy.specs.Rules.{Rules}
use Rattle.list_words.specs.Embeds.{Embeds}
use Rattle.arbac_policy.specs.Steps.{Run}

-- how often the place stands in the choice
abbrev pub times : ℕ → List ℕ → ℕ
times place [] = 0
times place (x ∷ xs) = (if x == place then 1 else 0) + times place xs

-- the users have the sets of the profiles at these places, in order
abbrev pub AreUsers : List Profile → List ℕ → List (List ℕ) → Type 0
AreUsers profiles [] [] = Unit {0}
AreUsers profiles [] (set ∷ users) = ⊥
AreUsers profiles (place ∷ choice) [] = ⊥
AreUsers profiles (place ∷ choice) (set ∷ users) =
    ((profile : Profile) × (slice_get profiles place ≡ Some profile) × (set ≡ profile.set)) × AreUsers profiles choice users

-- the choice names profiles, none of them beyond its count
pub record IsDrawnChoice (profiles : List Profile) (choice : List ℕ) : Type 0 where
  pub places : (k place : ℕ) → slice_get choice k ≡ Some place → (profile : Profile) × (slice_get profiles place ≡ Some profile)
  pub few : (place : ℕ) (profile : Profile) (most : ℕ) → slice_get profiles place ≡ Some profile → profile.most ≡ Some most
      → times place choice ≤ most

-- the population of a drawn choice
pub record IsDrawn (profiles : List Profile) (users : List (List ℕ)) : Type 0 where
  pub choice : List ℕ
  pub drawn : IsDrawnChoice profiles choice
  pub are_users : AreUsers profiles choice users

-- different users meet the conditions
abbrev pub GoalMet : List (ℕ × ℕ) → List Term → List (List ℕ) → Type 0
GoalMet edges goal users = Embeds (λ cond set. Satisfies user edges set cond) goal users

-- from some users that can be drawn a run leads to users who meet the goal
pub record IsReachable (rules : Rules) (profiles : List Profile) (goal : List Term) : Type 0 where
  pub start : List (List ℕ)
  pub drawn : IsDrawn profiles start
  pub acts : List Act
  pub end : List (List ℕ)
  pub run : Run rules start acts end
  pub met : GoalMet rules.order.edges goal end
