-- Changes of the tables.
use Rattle.std.specs.Prelude.{ℕ, ◌≡◌, ◌+◌, ◌-◌, ◌^◌, ◌≤◌, ◌<◌, nat_lt, Bool, true, false, List, [], ◌∷◌, ◌++◌, length, Option, Some, None}
use Rattle.std.specs.Prelude.{if◌then◌else◌, IfSome}
use Rattle.std.specs.Str.{bytes_eq}
use Rattle.list_words.specs.Lists.{Each, AreDifferent}
use Rattle.role_order.specs.Names.{place_of}
use Rattle.arbac_policy.specs.declared.holder.On.{On}
use Rattle.arbac_policy.specs.declared.holder.On.TheVariants.{User, Permission}
use Rattle.desk_records.specs.declared.tables.Entity.{Entity}
use Rattle.desk_records.specs.declared.tables.JournalRow.{JournalRow}
use Rattle.desk_records.specs.declared.tables.LastRow.{LastRow}
use Rattle.desk_records.specs.declared.tables.Change.{Change}
use Rattle.desk_records.specs.declared.tables.Change.TheVariants.{Decide, Import, Policy}
use Rattle.desk_records.specs.declared.TheConstants.{MOST_NUMBER, MOST_ENTITIES, MOST_ROWS}
use Rattle.desk_records.specs.Records.{Kept, of_kind, names_of, name_before}

-- the number of a request
abbrev pub IsNumber : ℕ → Type 0
IsNumber number = (1 ≤ number) × (number ≤ MOST_NUMBER)

-- whether both are one kind
abbrev pub is_kind : On → On → Bool
is_kind User User = true
is_kind User Permission = false
is_kind Permission User = false
is_kind Permission Permission = true

-- the entity in the place of the one of its name, or last where its name is new
abbrev pub put : List Entity → Entity → List Entity
put [] entity = entity ∷ []
put (old ∷ entities) entity = if bytes_eq old.name entity.name then entity ∷ entities else old ∷ put entities entity

-- each of these that is of the kind, put in turn
abbrev pub put_each : On → List Entity → List Entity → List Entity
put_each on entities [] = entities
put_each on entities (entity ∷ more) = put_each on (if is_kind entity.on on then put entities entity else entities) more

-- the entity, where there is one
abbrev pub if_any : Option Entity → List Entity
if_any None = []
if_any (Some entity) = entity ∷ []

-- the row as its caller's last
abbrev pub last_of_row : JournalRow → LastRow
last_of_row row = record { request = row.request; decision = row.decision }

-- the row in the place of its caller's, or where the callers' names go on rising
abbrev pub with_last : List LastRow → LastRow → List LastRow
with_last [] row = row ∷ []
with_last (old ∷ rows) row =
    if name_before old.request.caller row.request.caller then old ∷ with_last rows row
    else if name_before row.request.caller old.request.caller then row ∷ old ∷ rows
    else row ∷ rows

-- after the rows of a journal in turn
abbrev pub last_rows_of : List LastRow → List JournalRow → List LastRow
last_rows_of last [] = last
last_rows_of last (row ∷ rows) = last_rows_of (with_last last (last_of_row row)) rows

-- tables of these parts, each caller's last row being his last in the journal
abbrev pub kept_of : List ℕ → ℕ → List Entity → List Entity → List JournalRow → Kept
kept_of policy edition users permissions journal = record {
  policy = policy;
  edition = edition;
  users = users;
  permissions = permissions;
  journal = journal;
  last = last_rows_of [] journal;
}

-- the caller's last row
abbrev pub last_of : List LastRow → List ℕ → Option LastRow
last_of [] caller = None
last_of (row ∷ rows) caller = if bytes_eq row.request.caller caller then Some row else last_of rows caller

-- the edition after this one, unless it stands at its last value
abbrev pub next_edition : ℕ → ℕ
next_edition edition = if nat_lt edition (2 ^ 32 - 1) then edition + 1 else edition

-- the tables after the change
abbrev pub changed : Kept → Change → Kept
changed kept (Decide entity row) = record {
  policy = kept.policy;
  edition = kept.edition;
  users = put_each User kept.users (if_any entity);
  permissions = put_each Permission kept.permissions (if_any entity);
  journal = kept.journal ++ row ∷ [];
  last = with_last kept.last (last_of_row row);
}
changed kept (Import entities) = record {
  policy = kept.policy;
  edition = kept.edition;
  users = put_each User kept.users entities;
  permissions = put_each Permission kept.permissions entities;
  journal = kept.journal;
  last = kept.last;
}
changed kept (Policy document) = record {
  policy = document;
  edition = next_edition kept.edition;
  users = kept.users;
  permissions = kept.permissions;
  journal = kept.journal;
  last = kept.last;
}

-- what a change must be whatever is kept: the roles of an entity differ, a request has a number, a document isn't empty
abbrev pub IsSound : Change → Type 0
IsSound (Decide entity row) = IfSome entity (λ changed. AreDifferent changed.roles) × IsNumber row.request.number
IsSound (Import entities) = Each (λ entity. AreDifferent entity.roles) entities
IsSound (Policy document) = ¬ (document ≡ [])

-- some entity has the name
abbrev pub IsNamed : List Entity → List ℕ → Type 0
IsNamed entities name = (place : ℕ) × (place_of (names_of entities) name ≡ Some place)

-- a decision's row is the journal's next, of the present edition, and its entity is kept
pub record FitsDecision (kept : Kept) (entity : Option Entity) (row : JournalRow) : Type 0 where
  pub next : row.seq ≡ length kept.journal + 1
  pub room : length kept.journal < MOST_ROWS
  pub edition : row.edition ≡ kept.edition
  pub known : IfSome entity (λ changed. IsNamed (of_kind changed.on kept) changed.name)

-- an import leaves few enough entities of each kind
pub record FitsImport (kept : Kept) (entities : List Entity) : Type 0 where
  pub users : length (put_each User kept.users entities) ≤ MOST_ENTITIES
  pub permissions : length (put_each Permission kept.permissions entities) ≤ MOST_ENTITIES

-- what a change must be beside what is kept
abbrev pub Fits : Kept → Change → Type 0
Fits kept (Decide entity row) = FitsDecision kept entity row
Fits kept (Import entities) = FitsImport kept entities
Fits kept (Policy document) = Unit {0}
