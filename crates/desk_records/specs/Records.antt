-- The tables of the desk.
use Rattle.std.specs.Prelude.{ℕ, ◌≡◌, ◌+◌, ◌≤◌, Bool, List, [], ◌∷◌, length, slice_get, Some}
use Rattle.std.specs.Ordering.{is_lt, nat_cmp}
use Rattle.std.specs.Cmp.Lexicographic.{slice_cmp}
use Rattle.list_words.specs.Lists.{Each, AreDifferent}
use Rattle.list_words.specs.Orders.{AreRising}
use Rattle.arbac_policy.specs.declared.holder.On.{On}
use Rattle.arbac_policy.specs.declared.holder.On.TheVariants.{User, Permission}
use Rattle.desk_records.specs.declared.tables.Entity.{Entity}
use Rattle.desk_records.specs.declared.tables.JournalRow.{JournalRow}
use Rattle.desk_records.specs.declared.tables.LastRow.{LastRow}
use Rattle.desk_records.specs.declared.tables.Tables.{Tables}
use Rattle.desk_records.specs.declared.TheConstants.{MOST_ENTITIES, MOST_ROWS}

-- all that is kept: the document's bytes and edition, users and permissions by place, the journal, and
-- each caller's last row by the caller's name
pub record Kept : Type 0 where
  pub policy : List ℕ
  pub edition : ℕ
  pub users : List Entity
  pub permissions : List Entity
  pub journal : List JournalRow
  pub last : List LastRow

-- the number of rows in place of the journal
abbrev pub shown : Kept → Tables
shown kept = record {
  policy = kept.policy;
  edition = kept.edition;
  users = kept.users;
  permissions = kept.permissions;
  journal_count = length kept.journal;
  last = kept.last;
}

-- the entities of the kind
abbrev pub of_kind : On → Kept → List Entity
of_kind User kept = kept.users
of_kind Permission kept = kept.permissions

-- the entities' names
abbrev pub names_of : List Entity → List (List ℕ)
names_of [] = []
names_of (entity ∷ entities) = entity.name ∷ names_of entities

-- names are ordered as their bytes
abbrev pub name_before : List ℕ → List ℕ → Bool
name_before name other = is_lt (slice_cmp nat_cmp name other)

-- users, or permissions, few enough; their names differ, and the roles of each differ
pub record AreEntities (on : On) (entities : List Entity) : Type 0 where
  pub few : length entities ≤ MOST_ENTITIES
  pub kinds : Each (λ entity. entity.on ≡ on) entities
  pub names : AreDifferent (names_of entities)
  pub roles : Each (λ entity. AreDifferent entity.roles) entities

-- the callers' names rise, so they differ
abbrev pub AreLast : List LastRow → Type 0
AreLast rows = AreRising (λ row later. name_before row.request.caller later.request.caller) rows

-- the rows have the numbers 1, 2, 3 and so on
abbrev pub IsNumbered : List JournalRow → Type 0
IsNumbered journal = (place : ℕ) (row : JournalRow) → slice_get journal place ≡ Some row → row.seq ≡ place + 1

-- tables, as far as they go without the journal
pub record AreTables (tables : Tables) : Type 0 where
  pub users : AreEntities User tables.users
  pub permissions : AreEntities Permission tables.permissions
  pub last : AreLast tables.last
  pub rows : tables.journal_count ≤ MOST_ROWS

-- tables with a journal, no row of which is of a later edition
pub record IsKept (kept : Kept) : Type 0 where
  pub tables : AreTables (shown kept)
  pub numbered : IsNumbered kept.journal
  pub editions : Each (λ row. row.edition ≤ kept.edition) kept.journal

-- tables before the first document
abbrev pub empty_kept : Kept
empty_kept = record { policy = []; edition = 0; users = []; permissions = []; journal = []; last = [] }
