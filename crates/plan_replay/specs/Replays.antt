-- What a replay answers.
use Rattle.std.specs.Prelude.{ℕ, ◌≡◌, List, take, slice_get, Some}
use Rattle.arbac_policy.specs.declared.act.Act.{Act}
use Rattle.arbac_policy.specs.declared.verdict.Part.{Part}
use Rattle.arbac_policy.specs.Rules.{Rules}
use Rattle.arbac_policy.specs.Steps.{Run}
use Rattle.arbac_policy.specs.Verdicts.{Denies}
use Rattle.plan_replay.specs.declared.replaying.Replayed.{Replayed}
use Rattle.plan_replay.specs.declared.replaying.Replayed.TheVariants.{Ended, Stopped}

-- the acts before the place are a run, and the act there is denied for this first part
pub record StopsAt (rules : Rules) (start : List (List ℕ)) (acts : List Act) (place : ℕ) (part : Part) : Type 0 where
  pub act : Act
  pub at : slice_get acts place ≡ Some act
  pub state : List (List ℕ)
  pub run : Run rules start (take place acts) state
  pub denied : Denies rules state act part

-- what holds of the sets at the end
abbrev pub IfEnded : Replayed → (List (List ℕ) → Type 0) → Type 0
IfEnded (Ended users) P = P users.items
IfEnded (Stopped place part) P = Unit {0}

-- what holds of the place and the part
abbrev pub IfStopped : Replayed → (ℕ → Part → Type 0) → Type 0
IfStopped (Ended users) P = Unit {0}
IfStopped (Stopped place part) P = P place part
