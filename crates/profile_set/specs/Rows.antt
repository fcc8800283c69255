-- What the refusal of one record is told as.
use Rattle.std.specs.Prelude.{ℕ, ◌≡◌, List, Result, Err, if◌then◌else◌}
use Rattle.csv.specs.Records.{Row}
use Rattle.csv.specs.Reading.{stops_reader}
use Rattle.csv.specs.declared.error.Error.{Error}
use Rattle.profile_set.specs.declared.members_error.MembersError.{MembersError}
use Rattle.profile_set.specs.declared.members_error.MembersError.TheVariants.{BadRow, UnknownRole, Memory}
use Rattle.profile_set.specs.Members.{Fields, IsRecordFault}

-- the error is the record's fault, or want of memory
abbrev pub IsRowRefused : List (List ℕ) → Fields → ℕ → MembersError → Type 0
IsRowRefused names fields number (BadRow at) = IsRecordFault names fields number (BadRow at)
IsRowRefused names fields number (UnknownRole at) = IsRecordFault names fields number (UnknownRole at)
IsRowRefused names fields number Memory = Unit {0}

-- csv refused the record: a refusal that stops its reader is want of memory, and another one a record without its form
pub record IsToldFor (given : Result Row Error) (number : ℕ) (told : MembersError) : Type 0 where
  pub refusal : Error
  pub given_is : given ≡ Err refusal
  pub told_is : told ≡ (if stops_reader refusal.kind then Memory else BadRow number)
