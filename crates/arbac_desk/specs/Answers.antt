-- What every answer has to do with the outside, by what was seen of the shelf and of the sink before the call and after it.
use Rattle.std.specs.Prelude.{ℕ, ◌≡◌, ◌≢◌, ◌⊎◌, List, Option, Some, None, Result, Ok, Err}
use Rattle.desk_ports.specs.Faults.{raised, Rose}
use Rattle.desk_ports.specs.Shelves.{ShelfView}
use Rattle.desk_ports.specs.Sinks.{SinkView, Took, TookFront}
use Rattle.desk_texts.specs.Lines.{usage_line, read_fault_line}
use Rattle.std.specs.declared.alloc.AllocError.{AllocError}
use Rattle.arbac_desk.specs.declared.reply.Reply.{Reply}
use Rattle.arbac_desk.specs.Statuses.{USAGE, READ_FAULT, WRITE_FAULT, NO_MEMORY}

-- a fault is told only where its count rose, and where none is told no count rose
pub record TellsFaults (shelf shelf' : ShelfView) (sink sink' : SinkView) (status : ℕ) : Type 0 where
  pub read : status ≡ READ_FAULT → shelf'.faults ≡ raised shelf.faults
  pub write : status ≡ WRITE_FAULT → sink'.faults ≡ raised sink.faults
  pub shelf_kept : status ≢ READ_FAULT → status ≢ WRITE_FAULT → status ≢ NO_MEMORY → shelf'.faults ≡ shelf.faults
  pub sink_kept : status ≢ WRITE_FAULT → sink'.faults ≡ sink.faults

-- neither count rose
abbrev pub IsFaultless : ShelfView → ShelfView → SinkView → SinkView → Type 0
IsFaultless shelf shelf' sink sink' = (¬ Rose shelf.faults shelf'.faults) × (¬ Rose sink.faults sink'.faults)

-- the bytes are those that the shelf tells, if it tells any
abbrev pub AreTold : Option (List ℕ) → List ℕ → Type 0
AreTold None bytes = Unit {0}
AreTold (Some all) bytes = bytes ≡ all

-- a fetch gave its text
pub record HasFetched (shelf shelf' : ShelfView) : Type 0 where
  pub counted : shelf'.faults ≡ shelf.faults
  pub missed : shelf'.missed ≡ shelf.missed

-- a fetch of the file failed
pub record HasMissed (shelf shelf' : ShelfView) (name : List ℕ) : Type 0 where
  pub counted : shelf'.faults ≡ raised shelf.faults
  pub missed : shelf'.missed ≡ name

-- the file couldn't be read
pub record IsUnread (name : List ℕ) (shelf shelf' : ShelfView) (status : ℕ) (text : List ℕ) : Type 0 where
  pub told : status ≡ READ_FAULT
  pub missed : HasMissed shelf shelf' name
  pub text_is : text ≡ read_fault_line name

-- the file was read, and its bytes have this reply, as Replies says
pub record IsRead (Replies : List ℕ → ℕ → List ℕ → Type 0) (name : List ℕ) (shelf shelf' : ShelfView) (status : ℕ) (text : List ℕ) : Type 0 where
  pub fetched : HasFetched shelf shelf'
  pub bytes : List ℕ
  pub told : AreTold (shelf.told name) bytes
  pub reply : Replies bytes status text

-- what is to be written of one file, and with which status
abbrev pub IsFileReply : (List ℕ → ℕ → List ℕ → Type 0) → List ℕ → ShelfView → ShelfView → ℕ → List ℕ → Type 0
IsFileReply Replies name shelf shelf' status text = IsRead Replies name shelf shelf' status text ⊎ IsUnread name shelf shelf' status text

-- the status and the text are those of the reply, where there is one
abbrev pub IsOf : Result Reply AllocError → ℕ → List ℕ → Type 0
IsOf (Ok reply) status text = (status ≡ reply.status) × (text ≡ reply.text.items)
IsOf (Err error) status text = ⊥

-- all of a text was written that was to be written with this status, as Wants says
pub record IsSaid (Wants : ℕ → List ℕ → Type 0) (sink sink' : SinkView) (status : ℕ) : Type 0 where
  pub text : List ℕ
  pub wanted : Wants status text
  pub took : Took sink.taken sink'.taken text
  pub counted : sink'.faults ≡ sink.faults

-- the sink failed behind a prefix of such a text
pub record IsUnsaid (Wants : ℕ → List ℕ → Type 0) (sink sink' : SinkView) (status : ℕ) : Type 0 where
  pub told : status ≡ WRITE_FAULT
  pub other : ℕ
  pub text : List ℕ
  pub wanted : Wants other text
  pub took : TookFront sink.taken sink'.taken text
  pub counted : sink'.faults ≡ raised sink.faults

-- no memory was left, and nothing was written, or a prefix of such a text
pub record IsOutOfMemory (Wants : ℕ → List ℕ → Type 0) (sink sink' : SinkView) (status : ℕ) : Type 0 where
  pub told : status ≡ NO_MEMORY
  pub took : (sink'.taken ≡ sink.taken) ⊎ ((other : ℕ) × (text : List ℕ) × Wants other text × TookFront sink.taken sink'.taken text)
  pub counted : sink'.faults ≡ sink.faults

-- what comes of writing one text
abbrev pub Says : (ℕ → List ℕ → Type 0) → SinkView → SinkView → ℕ → Type 0
Says Wants sink sink' status = IsSaid Wants sink sink' status ⊎ (IsUnsaid Wants sink sink' status ⊎ IsOutOfMemory Wants sink sink' status)

-- the answer to a command of one file: it is fetched, and one text is written
pub record IsFileAnswer (Replies : List ℕ → ℕ → List ℕ → Type 0) (name : List ℕ) (shelf shelf' : ShelfView) (sink sink' : SinkView) (status : ℕ)
    : Type 0 where
  pub asked : HasFetched shelf shelf' ⊎ HasMissed shelf shelf' name
  pub says : Says (IsFileReply Replies name shelf shelf') sink sink' status

-- the answer to words of no written form: the usage line, and the shelf isn't asked
pub record IsUsageAnswer (shelf shelf' : ShelfView) (sink sink' : SinkView) (status : ℕ) : Type 0 where
  pub unasked : shelf' ≡ shelf
  pub says : Says (λ told text. (told ≡ USAGE) × (text ≡ usage_line)) sink sink' status
