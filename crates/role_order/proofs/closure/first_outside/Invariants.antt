use Rattle.std.proofs.Common.{ℕ, ◌≡◌, ◌<◌, Some}
use Rattle.std.specs.Prelude.{slice_get}
use Rattle.role_order.specs.Graph.{IsEdge}
use Rattle.role_order.proofs.closure.first_outside.Given as goal

abbrev pub invariant-loop-at : goal.invariant-loop-at
invariant-loop-at l = (k : ℕ) (edge : ℕ × ℕ) → k < l.at → slice_get l.edges k ≡ Some edge → IsEdge l.count edge
