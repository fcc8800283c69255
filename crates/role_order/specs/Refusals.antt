-- When names and edges are a role order, and which refusal comes first where they aren't.
use Rattle.std.specs.Prelude.{ℕ, ◌≡◌, ◌<◌, ◌≤◌, true, false, List, [], length, slice_get, Some, take}
use Rattle.role_order.specs.declared.order.OrderError.{OrderError}
use Rattle.role_order.specs.declared.order.OrderError.TheVariants.{NoRoles, TooManyRoles, BadName, SameName, EdgeOutOfRange, Cycle, Memory}
use Rattle.role_order.specs.declared.TheConstants.{MOST_ROLES}
use Rattle.list_words.specs.Lists.{Each, IsFirst, AreDifferent}
use Rattle.role_order.specs.Names.{is_role_name, place_of}
use Rattle.role_order.specs.Graph.{IsEdge, AreEdges, AreAcyclic, IsCycle}

-- 1 to MOST_ROLES roles
abbrev pub AreCounted : List (List ℕ) → Type 0
AreCounted names = (1 ≤ length names) × (length names ≤ MOST_ROLES)

-- each is a role name
abbrev pub AreRoleNames : List (List ℕ) → Type 0
AreRoleNames names = Each (λ name. is_role_name name ≡ true) names

-- 1 to MOST_ROLES role names, all different
pub record AreNames (names : List (List ℕ)) : Type 0 where
  pub counted : AreCounted names
  pub named : AreRoleNames names
  pub different : AreDifferent names

-- names and edges that nothing speaks against
pub record IsOrder (names : List (List ℕ)) (edges : List (ℕ × ℕ)) : Type 0 where
  pub are_names : AreNames names
  pub ends : AreEdges (length names) edges
  pub acyclic : AreAcyclic edges

-- the least place whose name stands before it, and the first such place before
pub record IsRepeated (names : List (List ℕ)) (first second : ℕ) : Type 0 where
  pub name : List ℕ
  pub at : slice_get names second ≡ Some name
  pub before : place_of (take second names) name ≡ Some first
  pub none_before : AreDifferent (take second names)

-- the refusal is the first, in the order of the variants, that these names and edges call for
abbrev pub IsRefused : List (List ℕ) → List (ℕ × ℕ) → OrderError → Type 0
IsRefused names edges NoRoles = names ≡ []
IsRefused names edges (TooManyRoles count) = (MOST_ROLES < length names) × (count ≡ length names)
IsRefused names edges (BadName place) = AreCounted names × IsFirst (λ name. is_role_name name ≡ false) names place
IsRefused names edges (SameName first second) = AreCounted names × AreRoleNames names × IsRepeated names first second
IsRefused names edges (EdgeOutOfRange place) = AreNames names × IsFirst (λ edge. ¬ IsEdge (length names) edge) edges place
IsRefused names edges (Cycle place) = AreNames names × AreEdges (length names) edges × IsCycle edges place
IsRefused names edges Memory = Unit {0}
