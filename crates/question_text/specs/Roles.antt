-- Roles by their names: the lists of roles, edges and pairs of a document.
use Rattle.std.specs.Prelude.{ℕ, ◌≡◌, ◌==◌, Bool, true, false, not, ◌||◌, ◌&&◌, List, [], Option, Some, None, position, codes, Ok, Err}
use Rattle.std.specs.Prelude.{◌⊎◌}
use Rattle.toml.specs.Data.{Data, Members, get_member, as_str}
use Rattle.role_order.specs.declared.order.OrderError.{OrderError}
use Rattle.role_order.specs.declared.order.OrderError.TheVariants.{Memory}
use Rattle.role_order.specs.Names.{place_of}
use Rattle.role_order.specs.Roles.{has_role}
use Rattle.role_order.specs.Refusals.{IsOrder, IsRefused}
use Rattle.arbac_policy.specs.declared.TheConstants.{MOST_EDGES}
use Rattle.cond_text.specs.Named.{set_of}
use Rattle.question_text.specs.declared.TheConstants.{MOST_PAIRS}
use Rattle.question_text.specs.Outcomes.{wrong_kind, unknown_role, no_order, mixed_role, Outcome, gives, fails, fails_if, ◌>>=◌}
use Rattle.question_text.specs.Keys.{as_list, as_two_texts, as_two_different_texts, of_kind, required, optional, at_most, entries, entry_of}

-- the value as a text
abbrev pub a_text : List ℕ → Data → Outcome (List ℕ)
a_text path d = of_kind (as_str d) path

-- the role, or the fault that it is unknown
abbrev pub found : List ℕ → Option ℕ → Outcome ℕ
found path None = fails (unknown_role path)
found path (Some role) = gives role

-- the role of this name
abbrev pub role_named : List (List ℕ) → List ℕ → List ℕ → Outcome ℕ
role_named names path name = found path (place_of names name)

-- a text that names a role
abbrev pub a_role : List (List ℕ) → List ℕ → Data → Outcome ℕ
a_role names path d = do
  name ← of_kind (as_str d) path
  role_named names path name

-- the set of the roles that the texts name
abbrev pub role_set : List (List ℕ) → List ℕ → List Data → Outcome (List ℕ)
role_set names path list = do
  roles ← entries (a_role names) path list
  gives (set_of roles)

-- the edges lead from roles to roles without a cycle, or this is what speaks against them
abbrev pub is_order : List (List ℕ) → List (ℕ × ℕ) → Outcome (Unit {0})
is_order names edges result =
    (IsOrder names edges × (result ≡ Ok tt))
    ⊎ ((error : OrderError) × IsRefused names edges error × (¬ (error ≡ Memory)) × (result ≡ Err (no_order error)))

-- `roles`: the names of an order, in their order
abbrev pub role_names : Members → Outcome (List (List ℕ))
role_names table = do
  list ← required as_list table [] (codes "roles")
  names ← entries a_text (codes "roles") list
  done ← is_order names []
  gives names

-- the entries of `admin_roles`, which must be there where roles are kept apart
abbrev pub admin_list : Bool → Members → Outcome (List Data)
admin_list true table = required as_list table [] (codes "admin_roles")
admin_list false table = optional as_list [] table [] (codes "admin_roles")

-- `admin_roles`: the set of the administrative roles; it must be there where they are kept separate
abbrev pub admin_roles : Bool → List (List ℕ) → Members → Outcome (List ℕ)
admin_roles separate names table = do
  list ← admin_list separate table
  role_set names (codes "admin_roles") list

-- the roles of two names
abbrev pub both_roles : List (List ℕ) → List ℕ → List ℕ × List ℕ → Outcome (ℕ × ℕ)
both_roles names path texts = do
  first ← role_named names path texts.0
  second ← role_named names path texts.1
  gives (first, second)

-- the roles that the names stand for
abbrev pub roles_in : List (List ℕ) → List ℕ → Option (List ℕ × List ℕ) → Outcome (ℕ × ℕ)
roles_in names path found = do
  texts ← of_kind found path
  both_roles names path texts

-- an edge: the names of the senior role and of the junior one
abbrev pub an_edge : List (List ℕ) → List ℕ → Data → Outcome (ℕ × ℕ)
an_edge names path d = roles_in names path (as_two_texts d)

-- a pair: the names of two different roles
abbrev pub a_pair : List (List ℕ) → List ℕ → Data → Outcome (ℕ × ℕ)
a_pair names path d = roles_in names path (as_two_different_texts d)

-- one role is administrative, and the other isn't
abbrev pub is_mixed : List ℕ → ℕ × ℕ → Bool
is_mixed admins roles =
    (has_role admins roles.0 && not (has_role admins roles.1)) || (has_role admins roles.1 && not (has_role admins roles.0))

-- a fault where a place is mixed
abbrev pub unless_mixed : List ℕ → Option ℕ → Outcome (Unit {0})
unless_mixed path None = gives tt
unless_mixed path (Some place) = fails (mixed_role (entry_of path place))

-- where administrative roles are kept separate, none of the pairs of roles is mixed
abbrev pub not_mixed : Bool → List ℕ → List ℕ → List (ℕ × ℕ) → Outcome (Unit {0})
not_mixed false admins path list = gives tt
not_mixed true admins path list = unless_mixed path (position (is_mixed admins) list)

-- a list of pairs of roles under a key, each read alike: it isn't too long, and none is mixed
abbrev pub listed_roles : ℕ → (List ℕ → Data → Outcome (ℕ × ℕ)) → Bool → List ℕ → List ℕ → Members → Outcome (List (ℕ × ℕ))
listed_roles most read separate admins key table = do
  list ← optional as_list [] table [] key
  few ← at_most most key list
  roles ← entries read key list
  apart ← not_mixed separate admins key roles
  gives roles

-- `edges`
abbrev pub role_edges : Bool → List ℕ → List (List ℕ) → Members → Outcome (List (ℕ × ℕ))
role_edges separate admins names table = do
  edges ← listed_roles MOST_EDGES (an_edge names) separate admins (codes "edges") table
  done ← is_order names edges
  gives edges

-- the key is there
abbrev pub is_there : Option Data → Bool
is_there None = false
is_there (Some d) = true

-- `exclusive`: the second version alone has it
abbrev pub exclusive_pairs : ℕ → Bool → List ℕ → List (List ℕ) → Members → Outcome (List (ℕ × ℕ))
exclusive_pairs version separate admins names table = do
  fits ← fails_if ((version == 1) && is_there (get_member (codes "exclusive") table)) (wrong_kind (codes "exclusive"))
  listed_roles MOST_PAIRS (a_pair names) separate admins (codes "exclusive") table
