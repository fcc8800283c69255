-- Entities stay of their form with the rows of an import.
use Rattle.std.proofs.Common.{ℕ, ◌≡◌, ◌<◌, ◌≤◌, Bool, true, false, cond, List, [], ◌∷◌, ◌++◌, length, Option, Some, None, refl}
use Rattle.std.proofs.Common.{sym, ◌∙◌, ap, subst, inl, inr}
use Rattle.std.specs.Prelude.{◌⊎◌, slice_get, IfSome}
use Rattle.std.specs.Str.{bytes_eq}
use Rattle.std.proofs.lemmas.Bool.{false≢true}
use Rattle.std.proofs.lemmas.List.Folds.{list_any_at}
use Rattle.list_words.specs.Lists.{Each, AreDifferent}
use Rattle.list_words.proofs.EachLemmas.{each_append}
use Rattle.list_words.proofs.GetLemmas.{get_within, get_last_cases}
use Rattle.role_order.specs.Roles.{has_role, with_role}
use Rattle.arbac_policy.specs.declared.holder.On.{On}
use Rattle.arbac_policy.specs.declared.holder.On.TheVariants.{User, Permission}
use Rattle.profile_set.specs.declared.member_row.MemberRow.{MemberRow}
use Rattle.desk_records.specs.declared.tables.Entity.{Entity}
use Rattle.desk_records.specs.declared.TheConstants.{MOST_ENTITIES}
use Rattle.desk_records.specs.Records.{Kept, IsKept, AreEntities, names_of}
use Rattle.desk_records.specs.Changes.{is_kind}
use Rattle.desk_machine.specs.Sets.{is_among, set_of, roles_of}
use Rattle.desk_machine.specs.Imports.{newcomer, enrolled, gained, with_gain, with_some, with_row, with_rows, imported, AreKnown, IsFew}
use Rattle.desk_machine.proofs.LastLemmas.{equal_itself}
use Rattle.desk_machine.proofs.RoleLemmas.{held_set, more_set, roles_differ}

-- entities of their form, however many
pub record AreFormed (on : On) (entities : List Entity) : Type 0 where
  pub kinds : Each (λ entity. entity.on ≡ on) entities
  pub names : AreDifferent (names_of entities)
  pub roles : Each (λ entity. AreDifferent entity.roles) entities

names_of-last : (entities : List Entity) (entity : Entity) → names_of (entities ++ entity ∷ []) ≡ names_of entities ++ entity.name ∷ []
names_of-last [] entity = refl
names_of-last (one ∷ entities) entity = ap (λ names. one.name ∷ names) (names_of-last entities entity)

-- different names, with one more that isn't among them
different_last : (names : List (List ℕ)) (name : List ℕ) → AreDifferent names → is_among names name ≡ false → AreDifferent (names ++ name ∷ [])
different_last names name different none i j text at_i at_j = by_places (get_last_cases names name text i at_i) (get_last_cases names name text j at_j)
  where
    never : (k : ℕ) → slice_get names k ≡ Some text → name ≡ text → ⊥
    never k at same =
        let here = get_within names k text at in
        let equal : bytes_eq text name ≡ true = subst (λ one. bytes_eq one name ≡ true) same (equal_itself name) in
        false≢true (sym none ∙ list_any_at (λ one. bytes_eq one name) names k text here.0 (subst (λ one. bytes_eq one name ≡ true) here.1 equal))

    by_places : (slice_get names i ≡ Some text) ⊎ ((i ≡ length names) × (name ≡ text)) → (slice_get names j ≡ Some text)
        ⊎ ((j ≡ length names) × (name ≡ text)) → i ≡ j
    by_places (inl a) (inl b) = different i j text a b
    by_places (inl a) (inr b) = absurd (never i a b.1)
    by_places (inr a) (inl b) = absurd (never j b a.1)
    by_places (inr a) (inr b) = a.0 ∙ sym b.0

enrolled_formed : (on : On) (entities : List Entity) (name : List ℕ) → AreFormed on entities → AreFormed on (enrolled on entities name)
enrolled_formed on entities name are = by_name (is_among (names_of entities) name) refl
  where
    by_name : (t : Bool) → is_among (names_of entities) name ≡ t → AreFormed on (cond t entities (entities ++ newcomer on name ∷ []))
    by_name true e = are
    by_name false e = record {
      kinds = each_append (λ entity. entity.on ≡ on) entities (newcomer on name ∷ []) are.kinds (refl, tt);
      names = subst (AreDifferent {A = List ℕ}) (sym (names_of-last entities (newcomer on name))) (different_last (names_of entities) name are.names e);
      roles = each_append (λ entity. AreDifferent entity.roles) entities (newcomer on name ∷ []) are.roles ((λ i j x a b. cc), tt);
    }

-- an entity that gains a role is the same but for its roles
gained_same : (names : List (List ℕ)) (role : ℕ) (entity : Entity)
    → ((gained names role entity).on ≡ entity.on) × ((gained names role entity).name ≡ entity.name)
gained_same names role entity = by_test (has_role (set_of names entity.roles) role)
  where
    more : Entity
    more = record { on = entity.on; name = entity.name; roles = roles_of names (with_role (set_of names entity.roles) role) }

    by_test : (t : Bool) → ((cond t entity more).on ≡ entity.on) × ((cond t entity more).name ≡ entity.name)
    by_test true = (refl, refl)
    by_test false = (refl, refl)

gained_roles : (names : List (List ℕ)) (role : ℕ) (entity : Entity) → AreDifferent names → role < length names → AreDifferent entity.roles
    → AreDifferent (gained names role entity).roles
gained_roles names role entity different within are = by_test (has_role (set_of names entity.roles) role)
  where
    more : Entity
    more = record { on = entity.on; name = entity.name; roles = roles_of names (with_role (set_of names entity.roles) role) }

    by_test : (t : Bool) → AreDifferent (cond t entity more).roles
    by_test true = are
    by_test false =
        roles_differ names (with_role (set_of names entity.roles) role) different
        (more_set (length names) (set_of names entity.roles) role (held_set names entity.roles) within)

names_of-gain : (names : List (List ℕ)) (name : List ℕ) (role : ℕ) (entities : List Entity)
    → names_of (with_gain names name role entities) ≡ names_of entities
names_of-gain names name role [] = refl
names_of-gain names name role (entity ∷ entities) =
    elim (bytes_eq entity.name name) as
    (λ t. names_of (cond t (gained names role entity ∷ entities) (entity ∷ with_gain names name role entities)) ≡ entity.name ∷ names_of entities) [
      | true ↦ ap (λ one. one ∷ names_of entities) (gained_same names role entity).1
      | false ↦ ap (λ more. entity.name ∷ more) (names_of-gain names name role entities)
    ]

each_gain : (P : Entity → Type 0) (names : List (List ℕ)) (name : List ℕ) (role : ℕ) → ((entity : Entity) → P entity → P (gained names role entity))
    → (entities : List Entity) → Each P entities → Each P (with_gain names name role entities)
each_gain P names name role keeps [] all = tt
each_gain P names name role keeps (entity ∷ entities) all =
    elim (bytes_eq entity.name name) as (λ t. Each P (cond t (gained names role entity ∷ entities) (entity ∷ with_gain names name role entities))) [
      | true ↦ (keeps entity all.0, all.1)
      | false ↦ (all.0, each_gain P names name role keeps entities all.1)
    ]

gain_formed : (names : List (List ℕ)) (on : On) (name : List ℕ) (role : Option ℕ) (entities : List Entity) → AreDifferent names
    → IfSome role (λ r. r < length names) → AreFormed on entities → AreFormed on (with_some names name role entities)
gain_formed names on name None entities different within are = are
gain_formed names on name (Some role) entities different within are = record {
  kinds = each_gain (λ entity. entity.on ≡ on) names name role (λ entity is. (gained_same names role entity).0 ∙ is) entities are.kinds;
  names = subst (AreDifferent {A = List ℕ}) (sym (names_of-gain names name role entities)) are.names;
  roles = each_gain (λ entity. AreDifferent entity.roles) names name role (λ entity is. gained_roles names role entity different within is)
      entities are.roles;
}

row_formed : (names : List (List ℕ)) (on : On) (entities : List Entity) (row : MemberRow) → AreDifferent names
    → IfSome row.role (λ role. role < length names) → AreFormed on entities → AreFormed on (with_row names on entities row)
row_formed names on entities row different within are =
    elim (is_kind row.on on) as (λ t. AreFormed on (cond t (with_some names row.name row.role (enrolled on entities row.name)) entities)) [
      | true ↦ gain_formed names on row.name row.role (enrolled on entities row.name) different within (enrolled_formed on entities row.name are)
      | false ↦ are
    ]

rows_formed : (names : List (List ℕ)) (on : On) (entities : List Entity) (rows : List MemberRow) → AreDifferent names → AreKnown names rows
    → AreFormed on entities → AreFormed on (with_rows names on entities rows)
rows_formed names on entities [] different known are = are
rows_formed names on entities (row ∷ rows) different known are =
    rows_formed names on (with_row names on entities row) rows different known.1 (row_formed names on entities row different known.0 are)

entities_imported : (names : List (List ℕ)) (on : On) (entities : List Entity) (rows : List MemberRow) → AreDifferent names → AreKnown names rows
    → AreEntities on entities → length (with_rows names on entities rows) ≤ MOST_ENTITIES → AreEntities on (with_rows names on entities rows)
entities_imported names on entities rows different known are few =
    let formed = rows_formed names on entities rows different known (record { kinds = are.kinds; names = are.names; roles = are.roles }) in
    record { few = few; kinds = formed.kinds; names = formed.names; roles = formed.roles }

-- an import that leaves few enough entities leaves the tables of their form
pub kept_imported : (names : List (List ℕ)) (kept : Kept) (rows : List MemberRow) → AreDifferent names → IsKept kept → AreKnown names rows
    → IsFew (imported names kept rows) → IsKept (imported names kept rows)
kept_imported names kept rows different is known few = record {
  tables = record {
    users = entities_imported names User kept.users rows different known is.tables.users few.0;
    permissions = entities_imported names Permission kept.permissions rows different known is.tables.permissions few.1;
    last = is.tables.last;
    rows = is.tables.rows;
  };
  numbered = is.numbered;
  editions = is.editions;
}
