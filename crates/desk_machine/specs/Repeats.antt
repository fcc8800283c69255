-- Requests that were decided, and how callers number them.
use Rattle.std.specs.Prelude.{ℕ, ◌≡◌, ◌+◌, ◌-◌, List, length, filter, slice_get, Option, Some, None}
use Rattle.std.specs.Str.{bytes_eq}
use Rattle.desk_records.specs.declared.requests.Request.{Request}
use Rattle.desk_records.specs.declared.decisions.Decision.{Decision}
use Rattle.desk_records.specs.declared.decisions.Decision.TheVariants as decisions
use Rattle.desk_records.specs.declared.tables.JournalRow.{JournalRow}
use Rattle.desk_records.specs.declared.tables.LastRow.{LastRow}
use Rattle.desk_records.specs.Records.{Kept}
use Rattle.desk_records.specs.Changes.{last_of, last_of_row}
use Rattle.desk_machine.specs.declared.reply.Reply.{Reply}
use Rattle.desk_machine.specs.declared.reply.Reply.TheVariants.{Granted, Denied, Repeat, OutOfTurn, NumberReused, JournalFull}

-- the reply is this decision on the request
abbrev pub Decides : Reply → Decision → Type 0
Decides Granted decision = decision ≡ decisions.Granted
Decides (Denied told) decision = decision ≡ decisions.Denied told
Decides (Repeat kept) decision = ⊥
Decides (OutOfTurn last) decision = ⊥
Decides (NumberReused last) decision = ⊥
Decides (JournalFull count) decision = ⊥

-- the reply decides the request
abbrev pub IsDecided : Reply → Type 0
IsDecided reply = (decision : Decision) × Decides reply decision

-- another caller's request
abbrev pub IsOfOther : Request → Request → Type 0
IsOfOther request other = ¬ (other.caller ≡ request.caller)

-- the caller's rows
abbrev pub rows_of : List ℕ → List JournalRow → List JournalRow
rows_of caller journal = filter (λ row. bytes_eq row.request.caller caller) journal

-- the row as its caller's last, where there is one
abbrev pub as_last : Option JournalRow → Option LastRow
as_last None = None
as_last (Some row) = Some (last_of_row row)

-- the last of the rows, as its caller's last
abbrev pub last_in : List JournalRow → Option LastRow
last_in rows = as_last (slice_get rows (length rows - 1))

-- the rows have the numbers 1, 2, 3 and so on
abbrev pub CountUp : List JournalRow → Type 0
CountUp rows = (place : ℕ) (row : JournalRow) → slice_get rows place ≡ Some row → row.request.number ≡ place + 1

-- each caller's rows are numbered 1, 2, 3 and so on, and his last row is the greatest of them
pub record AreCounted (kept : Kept) : Type 0 where
  pub numbers : (caller : List ℕ) → CountUp (rows_of caller kept.journal)
  pub last : (caller : List ℕ) → last_of kept.last caller ≡ last_in (rows_of caller kept.journal)
