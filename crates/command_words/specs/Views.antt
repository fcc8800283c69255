-- What was read, as it is seen.
use Rattle.std.specs.Prelude.{ℕ, ◌≡◌, List, Option, Some, None, map}
use Rattle.list_words.specs.Lists.{Each}
use Rattle.command_words.specs.declared.words.Words.{Words}
use Rattle.command_words.specs.Words.{Said, IsFileName, IsNumber}
use Rattle.command_words.specs.Command.{Kept}

-- the words that were read
abbrev pub said_by : Words → Said
said_by read = record {
  files = map (λ file. file.now) read.files.items;
  limit = read.limit;
  workers = read.workers;
  connections = read.connections;
  port = read.port;
}

-- the value is the number, where there is one
abbrev pub IsToldAs : Option (List ℕ) → Option ℕ → Type 0
IsToldAs None told = told ≡ None
IsToldAs (Some value) None = ⊥
IsToldAs (Some value) (Some number) = IsNumber value number

-- there is a value, and it is no number
abbrev pub IsUntold : Option (List ℕ) → Type 0
IsUntold None = ⊥
IsUntold (Some value) = (number : ℕ) → ¬ IsNumber value number

-- the texts that were kept tell this: each file name is one, and each value is the number
pub record AreJudged (kept : Kept) (told : Said) : Type 0 where
  pub files : told.files ≡ kept.files
  pub names : Each IsFileName kept.files
  pub limit : IsToldAs kept.limit told.limit
  pub workers : IsToldAs kept.workers told.workers
  pub connections : IsToldAs kept.connections told.connections
  pub port : IsToldAs kept.port told.port
