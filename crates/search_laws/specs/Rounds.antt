-- The search: rounds over candidates, until it is found, full or closed.
use Rattle.std.specs.Prelude.{ℕ, zero, suc, ◌≡◌, ◌+◌, ◌<◌, ◌⊎◌, List, [], ◌∷◌, ◌++◌, length, min}
use Rattle.arbac_policy.specs.declared.profile.Profile.{Profile}
use Rattle.arbac_policy.specs.Truth.{Term}
use Rattle.arbac_policy.specs.Rules.{Rules}
use Rattle.arbac_policy.specs.Goals.{IsDrawn}
use Rattle.arbac_laws.specs.Needs.{Need, Meets}
use Rattle.arbac_laws.specs.Closed.{IsUnmet}
use Rattle.arbac_laws.specs.Recorded.{Entry}
use Rattle.search_laws.specs.Candidates.{goal_candidates, next_candidates, batch, needs_in}
use Rattle.search_laws.specs.Beats.{AreUnbeaten}

-- what is searched for: users drawn by the profiles who come to meet the goal; barriers are known from the start,
-- and at most so many entries are recorded
pub record Search : Type 0 where
  pub rules : Rules
  pub profiles : List Profile
  pub goal : List Term
  pub barriers : List (List Need)
  pub limit : ℕ

-- how a search ends, each with the recorded list: an entry that drawn users meet, one more than may be recorded,
-- or nothing left to take
pub data Outcome : Type 0 where
  found : List Entry → Entry → Outcome
  full : List Entry → Entry → Outcome
  closed : List Entry → Outcome

-- how a round ends: so does the search, or it goes on with the list recorded so far
pub data Walk : Type 0 where
  ends : Outcome → Walk
  goes_on : List Entry → Walk

-- some drawn population meets the requirement
abbrev pub IsMet : List Profile → List Need → Type 0
IsMet profiles needs = (users : List (List ℕ)) × IsDrawn profiles users × Meets users needs

-- entries are walked one by one: the search ends at one that drawn users meet, else at one for which there is no room,
-- else it is recorded
abbrev pub Walks : Search → List Entry → List Entry → Walk → Type 0
Walks s recorded [] walk = walk ≡ goes_on recorded
Walks s recorded (entry ∷ entries) walk =
    (IsMet s.profiles entry.needs × (walk ≡ ends (found recorded entry)))
    ⊎ (IsUnmet s.profiles entry.needs ×
    (((length recorded ≡ s.limit) × (walk ≡ ends (full recorded entry)))
    ⊎ (¬ (length recorded ≡ s.limit) × Walks s (recorded ++ entry ∷ []) entries walk)))

-- a round: the unbeaten candidates are walked; barriers and what is recorded were known before it
pub record Round (s : Search) (recorded candidates : List Entry) (walk : Walk) : Type 0 where
  pub list : List Entry
  pub unbeaten : AreUnbeaten (s.barriers ++ needs_in recorded) candidates list
  pub walked : Walks s recorded list walk

-- the outcome of a round that ends the search, or what comes of the list it goes on with
abbrev pub Continues : (List Entry → Type 0) → Walk → Outcome → Type 0
Continues rest (ends end) outcome = outcome ≡ end
Continues rest (goes_on recorded) outcome = rest recorded

-- with so many recorded entries taken, the search comes to the outcome within so many rounds: it is closed where all
-- were taken, and else a round takes the next batch
abbrev pub ComesTo : Search → ℕ → List Entry → ℕ → Outcome → Type 0
ComesTo s zero recorded taken outcome = (taken ≡ length recorded) × (outcome ≡ closed recorded)
ComesTo s (suc rounds) recorded taken outcome =
    ((taken ≡ length recorded) × (outcome ≡ closed recorded))
    ⊎ ((taken < length recorded) × (walk : Walk) × Round s recorded (next_candidates s.rules recorded taken) walk
    × Continues (λ more. ComesTo s rounds more (min (taken + batch) (length recorded)) outcome) walk outcome)

-- the outcome of the search: the first round is that of the goal requirements
pub record IsOutcome (s : Search) (outcome : Outcome) : Type 0 where
  pub walk : Walk
  pub first : Round s [] (goal_candidates s.rules s.goal) walk
  pub rounds : ℕ
  pub rest : Continues (λ recorded. ComesTo s rounds recorded 0 outcome) walk outcome
