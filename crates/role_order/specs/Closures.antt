-- Tables of the roles above each role.
use Rattle.std.specs.Prelude.{ℕ, ◌≡◌, ◌&&◌, not, if◌then◌else◌, List, [], ◌↔◌, length, map, get_or, slice_get, Some}
use Rattle.list_words.specs.Lists.{Each}
use Rattle.role_order.specs.Roles.{has_role, join_roles, IsIn, Rises}
use Rattle.role_order.specs.Graph.{Leads}
use Rattle.role_order.specs.declared.closure.Closure.{Closure}
use Rattle.role_order.specs.declared.closure.Closure.TheVariants.{Table, Cycle}

-- a set for each role below the count: the roles from which edges lead down to it
pub record AreAbove (count : ℕ) (edges : List (ℕ × ℕ)) (above : List (List ℕ)) : Type 0 where
  pub long : length above ≡ count
  pub rise : Each Rises above
  pub each : (role : ℕ) (set : List ℕ) → slice_get above role ≡ Some set → (senior : ℕ) → IsIn set senior ↔ Leads edges senior role

-- the set at the place has the role
pub record HasAt (sets : List (List ℕ)) (place role : ℕ) : Type 0 where
  pub set : List ℕ
  pub at : slice_get sets place ≡ Some set
  pub there : IsIn set role

-- so many sets, each of the places whose sets have the role
pub record AreTurned (sets : List (List ℕ)) (count : ℕ) (turned : List (List ℕ)) : Type 0 where
  pub long : length turned ≡ count
  pub rise : Each Rises turned
  pub each : (role : ℕ) (set : List ℕ) → slice_get turned role ≡ Some set → (place : ℕ) → IsIn set place ↔ HasAt sets place role

-- the set with what is above the senior, where it has the junior and not yet the senior
abbrev pub raised_set : List ℕ → ℕ → ℕ → List ℕ → List ℕ
raised_set seniors senior junior set = if has_role set junior && not (has_role set senior) then join_roles set seniors else set

-- the table with the senior's row added to each row that the junior's stands in
abbrev pub raised : List (List ℕ) → ℕ → ℕ → List (List ℕ)
raised above senior junior = map (raised_set (get_or above senior []) senior junior) above

-- what holds of the table
abbrev pub IfTable : Closure → (List (List ℕ) → Type 0) → Type 0
IfTable (Table above) P = P above.items
IfTable (Cycle place) P = Unit {0}

-- what holds of the edge that closes a circle
abbrev pub IfCycle : Closure → (ℕ → Type 0) → Type 0
IfCycle (Table above) P = Unit {0}
IfCycle (Cycle place) P = P place
