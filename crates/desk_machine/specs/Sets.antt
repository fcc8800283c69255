-- Sets of roles behind lists of role names.
use Rattle.std.specs.Prelude.{ℕ, ◌≡◌, Bool, List, map, filter, length, Some}
use Rattle.std.specs.List.{list_any}
use Rattle.std.specs.Str.{bytes_eq}
use Rattle.list_words.specs.Lists.{Each}
use Rattle.role_order.specs.Names.{place_of, name_at}
use Rattle.role_order.specs.Reach.{count_up}
use Rattle.desk_records.specs.declared.tables.Entity.{Entity}

-- whether the name is among these
abbrev pub is_among : List (List ℕ) → List ℕ → Bool
is_among held name = list_any (λ one. bytes_eq one name) held

-- the roles whose names are held, by number
abbrev pub set_of : List (List ℕ) → List (List ℕ) → List ℕ
set_of names held = filter (λ role. is_among held (name_at names role)) (count_up 0 (length names))

-- the names of the set's roles, by rising number
abbrev pub roles_of : List (List ℕ) → List ℕ → List (List ℕ)
roles_of names set = map (name_at names) set

-- the set of each entity
abbrev pub sets_of : List (List ℕ) → List Entity → List (List ℕ)
sets_of names entities = map (λ entity. set_of names entity.roles) entities

-- the name is a role's
abbrev pub IsRole : List (List ℕ) → List ℕ → Type 0
IsRole names name = (role : ℕ) × (place_of names name ≡ Some role)

-- the entity holds roles alone
abbrev pub HoldsRoles : List (List ℕ) → Entity → Type 0
HoldsRoles names entity = Each (IsRole names) entity.roles
