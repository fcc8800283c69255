-- The tables after a list of members was imported.
use Rattle.std.specs.Prelude.{ℕ, ◌<◌, ◌≤◌, List, [], ◌∷◌, ◌++◌, length, Option, Some, None, if◌then◌else◌, IfSome}
use Rattle.std.specs.Str.{bytes_eq}
use Rattle.list_words.specs.Lists.{Each}
use Rattle.role_order.specs.Roles.{has_role, with_role}
use Rattle.arbac_policy.specs.declared.holder.On.{On}
use Rattle.arbac_policy.specs.declared.holder.On.TheVariants.{User, Permission}
use Rattle.profile_set.specs.declared.member_row.MemberRow.{MemberRow}
use Rattle.desk_records.specs.declared.tables.Entity.{Entity}
use Rattle.desk_records.specs.declared.TheConstants.{MOST_ENTITIES}
use Rattle.desk_records.specs.Records.{Kept, names_of}
use Rattle.desk_records.specs.Changes.{is_kind}
use Rattle.desk_machine.specs.Sets.{is_among, set_of, roles_of}

-- an entity without roles
abbrev pub newcomer : On → List ℕ → Entity
newcomer on name = record { on = on; name = name; roles = [] }

-- with one of the name, last where it is new
abbrev pub enrolled : On → List Entity → List ℕ → List Entity
enrolled on entities name = if is_among (names_of entities) name then entities else entities ++ newcomer on name ∷ []

-- the entity with the role; where it didn't hold it, its roles by rising number
abbrev pub gained : List (List ℕ) → ℕ → Entity → Entity
gained names role entity =
    if has_role (set_of names entity.roles) role then entity
    else record { on = entity.on; name = entity.name; roles = roles_of names (with_role (set_of names entity.roles) role) }

-- the first entity of the name with the role
abbrev pub with_gain : List (List ℕ) → List ℕ → ℕ → List Entity → List Entity
with_gain names name role [] = []
with_gain names name role (entity ∷ entities) =
    if bytes_eq entity.name name then gained names role entity ∷ entities else entity ∷ with_gain names name role entities

-- the entities with the role of a row, where it has one
abbrev pub with_some : List (List ℕ) → List ℕ → Option ℕ → List Entity → List Entity
with_some names name None entities = entities
with_some names name (Some role) entities = with_gain names name role entities

-- the entities of the kind after a row
abbrev pub with_row : List (List ℕ) → On → List Entity → MemberRow → List Entity
with_row names on entities row =
    if is_kind row.on on then with_some names row.name row.role (enrolled on entities row.name) else entities

-- the entities of the kind after the rows in turn
abbrev pub with_rows : List (List ℕ) → On → List Entity → List MemberRow → List Entity
with_rows names on entities [] = entities
with_rows names on entities (row ∷ rows) = with_rows names on (with_row names on entities row) rows

-- the tables after the rows
abbrev pub imported : List (List ℕ) → Kept → List MemberRow → Kept
imported names kept rows = record {
  policy = kept.policy;
  edition = kept.edition;
  users = with_rows names User kept.users rows;
  permissions = with_rows names Permission kept.permissions rows;
  journal = kept.journal;
  last = kept.last;
}

-- each row's role is one of those named
abbrev pub AreKnown : List (List ℕ) → List MemberRow → Type 0
AreKnown names rows = Each (λ row. IfSome row.role (λ role. role < length names)) rows

-- entities of both kinds are few enough
abbrev pub IsFew : Kept → Type 0
IsFew kept = (length kept.users ≤ MOST_ENTITIES) × (length kept.permissions ≤ MOST_ENTITIES)
