-- Ranges of roles, written junior end first.
use Rattle.std.specs.Prelude.{ℕ, ◌≡◌, ◌<◌, true, length}
use Rattle.role_order.specs.declared.range.Range.{Range}
use Rattle.role_order.specs.Graph.{Graph, Leads}

-- the role stands between the ends, and is no end that is open
pub record IsInRange (order : Graph) (range : Range) (role : ℕ) : Type 0 where
  pub is_role : role < length order.names
  pub above_low : Leads order.edges role range.low
  pub below_high : Leads order.edges range.high role
  pub low : range.low_open ≡ true → ¬ (role ≡ range.low)
  pub high : range.high_open ≡ true → ¬ (role ≡ range.high)
