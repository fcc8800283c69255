-- What an order keeps beside its names and edges.
use Rattle.std.specs.Prelude.{ℕ, List, length, map}
use Rattle.role_order.specs.Names.{IsNameTable}
use Rattle.role_order.specs.Graph.{turned}
use Rattle.role_order.specs.Refusals.{IsOrder}
use Rattle.role_order.specs.Closures.{AreAbove}

-- the tables are those of the order: what is above each role, what is below it, and the roles by name
pub record IsKept (names : List (List ℕ)) (edges : List (ℕ × ℕ)) (above below : List (List ℕ)) (by_name : List ℕ) : Type 0 where
  pub order : IsOrder names edges
  pub seniors : AreAbove (length names) edges above
  pub juniors : AreAbove (length names) (map turned edges) below
  pub table : IsNameTable names by_name
