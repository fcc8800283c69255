-- What a list of members stands for, and its first fault.
use Rattle.std.specs.Prelude.{ℕ, ◌≡◌, ◌⊎◌, ◌+◌, true, List, [], ◌∷◌, ◌++◌, length, Option, Some, None, codes, Result, Ok, Err, Vec}
use Rattle.std.specs.declared.alloc.Global.{Global}
use Rattle.csv.specs.Reading.{default_config, records, strip_bom}
use Rattle.csv.specs.Records.{AllText}
use Rattle.role_order.specs.Names.{is_name, place_of}
use Rattle.arbac_policy.specs.declared.holder.On.{On}
use Rattle.arbac_policy.specs.declared.holder.On.TheVariants.{User, Permission}
use Rattle.profile_set.specs.declared.member_row.MemberRow.{MemberRow}
use Rattle.profile_set.specs.declared.members_error.MembersError.{MembersError}
use Rattle.profile_set.specs.declared.members_error.MembersError.TheVariants.{BadRow, UnknownRole, Memory}

-- the fields of a record
abbrev pub Fields : Type 0
Fields = List (List ℕ)

-- the records of the bytes as CSV, one byte order mark before them passed over
abbrev pub records_of : List ℕ → List Fields
records_of bytes = records default_config (strip_bom bytes)

-- the first record
abbrev pub header : Fields
header = codes "kind" ∷ codes "name" ∷ codes "role" ∷ []

-- the word of a record's kind
abbrev pub kind_text : On → List ℕ
kind_text User = codes "user"
kind_text Permission = codes "permission"

-- the record is text, and has a kind, a name and the text of a role
pub record IsFormed (fields : Fields) (on : On) (name : List ℕ) (role : List ℕ) : Type 0 where
  pub fields_are : fields ≡ kind_text on ∷ name ∷ role ∷ []
  pub name_is : is_name name ≡ true
  pub text : AllText fields

-- no text gives no role, and another one the role of that name
abbrev pub Gives : List (List ℕ) → List ℕ → Option ℕ → Type 0
Gives names text None = text ≡ []
Gives names text (Some role) = (¬ (text ≡ [])) × (place_of names text ≡ Some role)

-- the record stands for the row
pub record IsRow (names : List (List ℕ)) (fields : Fields) (row : MemberRow) : Type 0 where
  pub text : List ℕ
  pub formed : IsFormed fields row.on row.name text
  pub role : Gives names text row.role

-- the records stand for the rows, one by one
abbrev pub AreRows : List (List ℕ) → List Fields → List MemberRow → Type 0
AreRows names [] rows = rows ≡ []
AreRows names (fields ∷ later) rows =
    (row : MemberRow) × (more : List MemberRow) × IsRow names fields row × AreRows names later more × (rows ≡ row ∷ more)

-- the bytes are a list of members, and these are its rows
pub record IsMembers (names : List (List ℕ)) (bytes : List ℕ) (rows : List MemberRow) : Type 0 where
  pub later : List Fields
  pub records : records_of bytes ≡ header ∷ later
  pub right : AreRows names later rows

-- the record hasn't its form; or it has, and its role is a text that is no role's name
abbrev pub IsRecordFault : List (List ℕ) → Fields → ℕ → MembersError → Type 0
IsRecordFault names fields number (BadRow at) = (at ≡ number) × ((on : On) (name role : List ℕ) → ¬ IsFormed fields on name role)
IsRecordFault names fields number (UnknownRole at) =
    (at ≡ number) × (on : On) × (name : List ℕ) × (role : List ℕ) × IsFormed fields on name role × (¬ (role ≡ []))
    × (place_of names role ≡ None)
IsRecordFault names fields number Memory = ⊥

-- the first record at fault is behind the header and records that stand for rows; the header has number 1
pub record IsFaultBehind (names : List (List ℕ)) (bytes : List ℕ) (fault : MembersError) : Type 0 where
  pub before : List Fields
  pub rows : List MemberRow
  pub fields : Fields
  pub later : List Fields
  pub records : records_of bytes ≡ header ∷ (before ++ fields ∷ later)
  pub right : AreRows names before rows
  pub fault_is : IsRecordFault names fields (2 + length before) fault

-- there is no record, or the first isn't the header
abbrev pub HasNoHeader : List ℕ → Type 0
HasNoHeader bytes = (later : List Fields) → ¬ (records_of bytes ≡ header ∷ later)

-- the first fault of the bytes
abbrev pub IsFirstFault : List (List ℕ) → List ℕ → MembersError → Type 0
IsFirstFault names bytes (BadRow at) = ((at ≡ 1) × HasNoHeader bytes) ⊎ IsFaultBehind names bytes (BadRow at)
IsFirstFault names bytes (UnknownRole at) = IsFaultBehind names bytes (UnknownRole at)
IsFirstFault names bytes Memory = ⊥

-- the error is the first fault, or want of memory
abbrev pub IsRefused : List (List ℕ) → List ℕ → MembersError → Type 0
IsRefused names bytes (BadRow at) = IsFirstFault names bytes (BadRow at)
IsRefused names bytes (UnknownRole at) = IsFirstFault names bytes (UnknownRole at)
IsRefused names bytes Memory = Unit {0}

-- reading tells the fault, unless memory runs out
abbrev pub Tells : Result (Vec MemberRow Global) MembersError → MembersError → Type 0
Tells (Ok rows) fault = ⊥
Tells (Err error) fault = (error ≡ fault) ⊎ (error ≡ Memory)

-- the rows that were read are these, unless memory ran out
abbrev pub Reads : Result (Vec MemberRow Global) MembersError → List MemberRow → Type 0
Reads (Ok read) rows = read.items ≡ rows
Reads (Err error) rows = error ≡ Memory
