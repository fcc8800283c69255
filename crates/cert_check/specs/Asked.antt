-- What a certificate has to show, and where one fails first.
use Rattle.std.specs.Prelude.{ℕ, ◌≡◌, List, [], ◌∷◌, ◌++◌, map, take, length, slice_get, Some}
use Rattle.list_words.specs.Lists.{Each, Some_of, IsFirst}
use Rattle.arbac_policy.specs.declared.profile.Profile.{Profile}
use Rattle.arbac_policy.specs.declared.act.Act.{Act}
use Rattle.arbac_policy.specs.declared.verdict.Part.{Part}
use Rattle.arbac_policy.specs.Truth.{Term}
use Rattle.arbac_policy.specs.Rules.{Rules}
use Rattle.arbac_policy.specs.Steps.{Run}
use Rattle.arbac_policy.specs.Goals.{AreUsers, IsDrawnChoice, GoalMet}
use Rattle.profile_set.specs.Draws.{IsFirstUndrawn}
use Rattle.plan_replay.specs.Replays.{StopsAt}
use Rattle.arbac_laws.specs.Needs.{Need, Covers, IsCovered, IsPossible}
use Rattle.arbac_laws.specs.Closed.{IsClosedList}
use Rattle.arbac_laws.specs.Goals.{goal_requirements}
use Rattle.arbac_laws.specs.Obligations.{Obligation, obligations, pre_image}
use Rattle.arbac_laws.specs.NormalForms.{normal_form}
use Rattle.arbac_laws.specs.Recorded.{Entry, IsOrigin, IsRecordedList}
use Rattle.arbac_laws.specs.Serving.{Serves, ServesLeast}
use Rattle.cert_text.specs.Certificates.{Certificate, reachable, unreachable, undecided}
use Rattle.cert_check.specs.declared.judgement.Why.{Why}
use Rattle.cert_check.specs.declared.judgement.Why.TheVariants as whys

-- why a certificate is refused, as plain data: a choice is a list
pub data Reason : Type 0 where
  not_drawn : ℕ → Reason
  step_refused : ℕ → Part → Reason
  goal_not_met : Reason
  goal_uncovered : ℕ → Reason
  left_open : ℕ → ℕ → Reason
  starts_met : ℕ → List ℕ → Reason
  not_derived : ℕ → Reason
  repeated : ℕ → ℕ → Reason
  wrong_count : ℕ → Reason

-- the reason that the checker tells, as plain data
abbrev pub reason_of : Why → Reason
reason_of (whys.NotDrawn user) = not_drawn user
reason_of (whys.StepRefused place part) = step_refused place part
reason_of whys.GoalNotMet = goal_not_met
reason_of (whys.GoalUncovered goal) = goal_uncovered goal
reason_of (whys.Open need obligation) = left_open need obligation
reason_of (whys.StartsMet need choice) = starts_met need choice.items
reason_of (whys.NotDerived place) = not_derived place
reason_of (whys.Repeated place earlier) = repeated place earlier
reason_of (whys.WrongCount count) = wrong_count count

-- what is asked: users drawn by the profiles, under the rules, and a goal
pub record Asked : Type 0 where
  pub rules : Rules
  pub profiles : List Profile
  pub goal : List Term

-- drawn users whom the acts lead to the goal
pub record IsPlan (asked : Asked) (start : List ℕ) (acts : List Act) : Type 0 where
  pub drawn : IsDrawnChoice asked.profiles start
  pub users : List (List ℕ)
  pub are_users : AreUsers asked.profiles start users
  pub end : List (List ℕ)
  pub run : Run asked.rules users acts end
  pub met : GoalMet asked.rules.order.edges asked.goal end

-- the certificate shows what it says: a plan; a closed list; or a recorded list of as many steps as the limit, and one more
abbrev pub HasProperty : Asked → Certificate → Type 0
HasProperty asked (reachable start acts) = IsPlan asked start acts
HasProperty asked (unreachable needs) = IsClosedList asked.rules asked.profiles asked.goal needs
HasProperty asked (undecided limit recorded next) =
    (length recorded ≡ limit) × IsRecordedList asked.rules asked.profiles asked.goal (recorded ++ next ∷ [])

-- drawn users whom the acts lead to a first one that is refused
pub record IsRefusedAct (asked : Asked) (start : List ℕ) (acts : List Act) (place : ℕ) (part : Part) : Type 0 where
  pub drawn : IsDrawnChoice asked.profiles start
  pub users : List (List ℕ)
  pub are_users : AreUsers asked.profiles start users
  pub stops : StopsAt asked.rules users acts place part

-- drawn users whom the acts lead to an end that doesn't meet the goal
pub record MissesGoal (asked : Asked) (start : List ℕ) (acts : List Act) : Type 0 where
  pub drawn : IsDrawnChoice asked.profiles start
  pub users : List (List ℕ)
  pub are_users : AreUsers asked.profiles start users
  pub end : List (List ℕ)
  pub run : Run asked.rules users acts end
  pub unmet : ¬ GoalMet asked.rules.order.edges asked.goal end

-- the requirement is possible, and no member covers it
abbrev pub IsUncovered : List (List Need) → List Need → Type 0
IsUncovered list needs = IsPossible needs × ¬ IsCovered list needs

-- the obligation has a possible pre-image that no member covers
abbrev pub IsOpen : Rules → List (List Need) → List Need → Obligation → Type 0
IsOpen rules list needs ob = (before : List Need) × (pre_image rules needs ob ≡ Some before) × IsUncovered list before

-- some obligation of the member is open
abbrev pub HasOpen : Rules → List (List Need) → List Need → Type 0
HasOpen rules list needs = Some_of (IsOpen rules list needs) (obligations rules needs)

-- each possible goal requirement is covered
abbrev pub AreGoalsCovered : Asked → List (List Need) → Type 0
AreGoalsCovered asked list = Each (λ needs. ¬ IsUncovered list needs) (goal_requirements asked.rules.order asked.goal)

-- the first obligation that is open, of the first member that has one
pub record IsFirstOpen (asked : Asked) (list : List (List Need)) (place obligation : ℕ) : Type 0 where
  pub goals : AreGoalsCovered asked list
  pub member : IsFirst (HasOpen asked.rules list) list place
  pub first : IsFirst (IsOpen asked.rules list member.item) (obligations asked.rules member.item) obligation

-- drawn users meet the requirement
abbrev pub HasStart : List Profile → List Need → Type 0
HasStart profiles needs = (choice : List ℕ) × Serves profiles needs choice

-- the first member that drawn users meet, where none has an open obligation, and the least choice of these users
pub record IsFirstMet (asked : Asked) (list : List (List Need)) (place : ℕ) (choice : List ℕ) : Type 0 where
  pub goals : AreGoalsCovered asked list
  pub none_open : Each (λ needs. ¬ HasOpen asked.rules list needs) list
  pub member : IsFirst (HasStart asked.profiles) list place
  pub least : ServesLeast asked.profiles member.item choice

-- with these entries before it, the entry is the normal form of what its origin names
abbrev pub IsDerivedEntry : Asked → List Entry → Entry → Type 0
IsDerivedEntry asked earlier entry =
    (needs : List Need) × IsOrigin asked.rules asked.goal earlier entry.origin needs × (normal_form needs ≡ Some entry.needs)

-- the requirements of entries
abbrev pub needs_in : List Entry → List (List Need)
needs_in entries = map (λ (entry : Entry). entry.needs) entries

-- the steps before the place are right
abbrev pub AreRightUntil : Asked → List Entry → ℕ → Type 0
AreRightUntil asked list place = IsRecordedList asked.rules asked.profiles asked.goal (take place list)

-- the first step that isn't right isn't derived
pub record IsUnderived (asked : Asked) (list : List Entry) (place : ℕ) : Type 0 where
  pub before : AreRightUntil asked list place
  pub entry : Entry
  pub at : slice_get list place ≡ Some entry
  pub wrong : ¬ IsDerivedEntry asked (take place list) entry

-- the first step that isn't right is derived, and the earlier one is the first that covers it
pub record IsRepeated (asked : Asked) (list : List Entry) (place earlier : ℕ) : Type 0 where
  pub before : AreRightUntil asked list place
  pub entry : Entry
  pub at : slice_get list place ≡ Some entry
  pub derived : IsDerivedEntry asked (take place list) entry
  pub covered : IsFirst (λ needs. Covers needs entry.needs) (needs_in (take place list)) earlier

-- the first step that isn't right is derived and new, and these are the least users who meet it
pub record IsMetStep (asked : Asked) (list : List Entry) (place : ℕ) (choice : List ℕ) : Type 0 where
  pub before : AreRightUntil asked list place
  pub entry : Entry
  pub at : slice_get list place ≡ Some entry
  pub derived : IsDerivedEntry asked (take place list) entry
  pub new : ¬ IsCovered (needs_in (take place list)) entry.needs
  pub least : ServesLeast asked.profiles entry.needs choice

-- the certificate fails first for this reason
abbrev pub FailsFirst : Asked → Certificate → Reason → Type 0
FailsFirst asked (reachable start acts) (not_drawn user) = IsFirstUndrawn asked.profiles start user
FailsFirst asked (reachable start acts) (step_refused place part) = IsRefusedAct asked start acts place part
FailsFirst asked (reachable start acts) goal_not_met = MissesGoal asked start acts
FailsFirst asked (unreachable needs) (goal_uncovered goal) =
    IsFirst (IsUncovered needs) (goal_requirements asked.rules.order asked.goal) goal
FailsFirst asked (unreachable needs) (left_open need obligation) = IsFirstOpen asked needs need obligation
FailsFirst asked (unreachable needs) (starts_met need choice) = IsFirstMet asked needs need choice
FailsFirst asked (undecided limit recorded next) (wrong_count count) = (count ≡ length recorded) × ¬ (count ≡ limit)
FailsFirst asked (undecided limit recorded next) (not_derived place) =
    (length recorded ≡ limit) × IsUnderived asked (recorded ++ next ∷ []) place
FailsFirst asked (undecided limit recorded next) (repeated place earlier) =
    (length recorded ≡ limit) × IsRepeated asked (recorded ++ next ∷ []) place earlier
FailsFirst asked (undecided limit recorded next) (starts_met place choice) =
    (length recorded ≡ limit) × IsMetStep asked (recorded ++ next ∷ []) place choice
FailsFirst asked cert why = ⊥
