-- What exclusive pairs bar, role by role.
use Rattle.std.specs.Prelude.{ℕ, ◌≡◌, ◌<◌, List, length, slice_get, Some}
use Rattle.role_order.specs.Roles.{has_role}
use Rattle.role_order.specs.Graph.{Graph}
use Rattle.arbac_laws.specs.PreImages.{barred, is_barred}

-- the set at a role's number has what the pairs bar from whoever is given it, and the other set has the roles that nobody
-- can be given who lacks them
pub record AreExclusions (order : Graph) (pairs : List (ℕ × ℕ)) (bars : List (List ℕ)) (closed : List ℕ) : Type 0 where
  pub long : length bars ≡ length order.names
  pub bars_are : (role : ℕ) → role < length order.names → slice_get bars role ≡ Some (barred order role pairs)
  pub closed_are : (role : ℕ) → role < length order.names → has_role closed role ≡ is_barred order role pairs
