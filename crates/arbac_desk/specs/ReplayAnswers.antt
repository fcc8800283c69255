-- What `replay` answers, by the bytes of its file.
use Rattle.std.specs.Prelude.{ℕ, ◌≡◌, ◌≢◌, ◌<◌, ◌≤◌, ◌⊎◌, List, length, map}
use Rattle.arbac_policy.specs.declared.verdict.Part.{Part}
use Rattle.arbac_policy.specs.Truth.{term_of}
use Rattle.arbac_policy.specs.Steps.{Run as IsRun}
use Rattle.arbac_policy.specs.Goals.{GoalMet}
use Rattle.policy_text.specs.declared.run.Run.{Run}
use Rattle.policy_text.specs.declared.run_error.RunError.{RunError}
use Rattle.policy_text.specs.declared.run_error.RunError.TheVariants as runs
use Rattle.policy_text.specs.Runs.{RunValue, StandsFor, plain_of, IsForUsers}
use Rattle.policy_text.specs.Faults.{IsFirstFault}
use Rattle.plan_replay.specs.Replays.{StopsAt}
use Rattle.plan_replay.specs.GoalLists.{AreLeast}
use Rattle.desk_ports.specs.Shelves.{ShelfView}
use Rattle.desk_ports.specs.Sinks.{SinkView}
use Rattle.desk_texts.specs.Faults.{run_fault, too_long}
use Rattle.desk_texts.specs.Lines.{malformed_line}
use Rattle.arbac_desk.specs.declared.TheConstants.{MOST_RUN_BYTES}
use Rattle.arbac_desk.specs.Statuses.{DONE, MALFORMED, REFUSED}
use Rattle.arbac_desk.specs.Answers.{IsFileReply, IsFileAnswer}
use Rattle.arbac_desk.specs.ReplayTexts.{done_text, unmet_text, stopped_text}

-- the bytes, few enough, are a run text, and its acts are a run from its users to these sets
pub record EndsAt (bytes : List ℕ) (run : Run) (sets : List (List ℕ)) : Type 0 where
  pub few : length bytes ≤ MOST_RUN_BYTES
  pub stands : StandsFor bytes (plain_of run)
  pub users : IsForUsers run.policy
  pub acts : IsRun run.policy run.start.items run.acts.items sets

-- the goal is met at the end, by these users
pub record IsDone (bytes text : List ℕ) : Type 0 where
  pub run : Run
  pub sets : List (List ℕ)
  pub users : List ℕ
  pub ends : EndsAt bytes run sets
  pub met : AreLeast run.policy.order.edges (map term_of run.goal.items) sets users
  pub text_is : text ≡ done_text run.policy.order.names sets users

-- the goal isn't met at the end
pub record IsUnmet (bytes text : List ℕ) : Type 0 where
  pub run : Run
  pub sets : List (List ℕ)
  pub ends : EndsAt bytes run sets
  pub unmet : ¬ GoalMet run.policy.order.edges (map term_of run.goal.items) sets
  pub text_is : text ≡ unmet_text run.policy.order.names sets

-- the acts are no run: the first that is refused stands at the place, and this is its first part that fails
pub record IsStopped (bytes text : List ℕ) : Type 0 where
  pub few : length bytes ≤ MOST_RUN_BYTES
  pub run : Run
  pub stands : StandsFor bytes (plain_of run)
  pub users : IsForUsers run.policy
  pub place : ℕ
  pub part : Part
  pub stops : StopsAt run.policy run.start.items run.acts.items place part
  pub no_run : (end : List (List ℕ)) → ¬ IsRun run.policy run.start.items run.acts.items end
  pub text_is : text ≡ stopped_text run.policy.order.names place part

-- the bytes are no run text, and this is their first fault
pub record IsNoRun (bytes : List ℕ) (fault : RunError) : Type 0 where
  pub first : IsFirstFault bytes fault
  pub told : fault ≢ runs.Memory
  pub none : (value : RunValue) → ¬ StandsFor bytes value

-- the bytes are too many, or no run text; the line names the file and the fault
abbrev pub IsMalformed : List ℕ → List ℕ → List ℕ → Type 0
IsMalformed name bytes text =
    ((MOST_RUN_BYTES < length bytes) × (text ≡ malformed_line name too_long))
    ⊎ ((length bytes ≤ MOST_RUN_BYTES) × (fault : RunError) × IsNoRun bytes fault × (text ≡ malformed_line name (run_fault fault)))

-- the status and the text are those to these bytes of the file
abbrev pub IsReplyTo : List ℕ → List ℕ → ℕ → List ℕ → Type 0
IsReplyTo name bytes status text =
    ((status ≡ DONE) × IsDone bytes text)
    ⊎ (((status ≡ REFUSED) × (IsUnmet bytes text ⊎ IsStopped bytes text))
    ⊎ ((status ≡ MALFORMED) × IsMalformed name bytes text))

-- what is to be written, and with which status
abbrev pub IsReplayReply : List ℕ → ShelfView → ShelfView → ℕ → List ℕ → Type 0
IsReplayReply name = IsFileReply (IsReplyTo name) name

-- the answer to `replay RUN`: one file is fetched, and one text is written
abbrev pub IsReplayAnswer : List ℕ → ShelfView → ShelfView → SinkView → SinkView → ℕ → Type 0
IsReplayAnswer run = IsFileAnswer (IsReplyTo run) run

-- the bytes, few enough, are a run text
abbrev pub IsRunText : List ℕ → Type 0
IsRunText bytes = (length bytes ≤ MOST_RUN_BYTES) × (value : RunValue) × StandsFor bytes value
