-- Lists of the users who meet a goal.
use Rattle.std.specs.Prelude.{ℕ, ◌≡◌, ◌⊎◌, List, [], ◌∷◌}
use Rattle.std.specs.Coded.{×_prop, Unit-prop, le_prop}
use Rattle.list_words.specs.Lists.{Each}
use Rattle.arbac_policy.specs.declared.cond.Cond.{Cond}
use Rattle.arbac_policy.specs.Truth.{Term, any, has, lacks, both, either, term_of, user, IsKnown, Satisfies}
use Rattle.list_words.specs.Places.{ArePlaces}
use Rattle.hall_match.specs.Matchings.{IsBefore}

-- different users, by place, one for each condition, each of whom meets his condition
abbrev pub MeetGoal : List (ℕ × ℕ) → List Term → List (List ℕ) → List ℕ → Type 0
MeetGoal edges goal sets users = ArePlaces (λ cond set. Satisfies user edges set cond) goal sets users

-- they meet the goal, and are before any other list that does
pub record AreLeast (edges : List (ℕ × ℕ)) (goal : List Term) (sets : List (List ℕ)) (users : List ℕ) : Type 0 where
  pub meet : MeetGoal edges goal sets users
  pub least : (other : List ℕ) → MeetGoal edges goal sets other → (other ≡ users) ⊎ IsBefore users other

-- each condition's roles are below the count
abbrev pub AreKnown : ℕ → List Cond → Type 0
AreKnown count goal = Each (λ cond. IsKnown count (term_of cond)) goal

IsKnown-prop : (count : ℕ) (t : Term) → IsProp (IsKnown count t)
IsKnown-prop count any = Unit-prop
IsKnown-prop count (has role) = le_prop
IsKnown-prop count (lacks role) = le_prop
IsKnown-prop count (both t u) = ×_prop (IsKnown-prop count t) (IsKnown-prop count u)
IsKnown-prop count (either t u) = ×_prop (IsKnown-prop count t) (IsKnown-prop count u)

-- that can hold in one way alone
pub AreKnown-prop : (count : ℕ) (goal : List Cond) → IsProp (AreKnown count goal)
AreKnown-prop count [] = Unit-prop
AreKnown-prop count (cond ∷ goal) = ×_prop (IsKnown-prop count (term_of cond)) (AreKnown-prop count goal)
