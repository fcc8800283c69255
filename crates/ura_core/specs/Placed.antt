-- A role's place in the order, as two sets.
use Rattle.std.specs.Prelude.{ℕ, List, ◌<◌, ◌↔◌, length}
use Rattle.role_order.specs.Graph.{Graph, Leads}
use Rattle.role_order.specs.Roles.{IsIn}

-- the first set has the roles above the role and the second those below it, and both the role itself
pub record IsPlaced (order : Graph) (role : ℕ) (above below : List ℕ) : Type 0 where
  pub is_role : role < length order.names
  pub seniors : (senior : ℕ) → IsIn above senior ↔ Leads order.edges senior role
  pub juniors : (junior : ℕ) → IsIn below junior ↔ Leads order.edges role junior
