use Rattle.std.proofs.Common.{ℕ, ◌≡◌, ◌<◌, List, Some, true}
use Rattle.std.specs.Prelude.{slice_get}
use Rattle.role_order.specs.Names.{texts, is_role_name}
use Rattle.role_order.proofs.names.first_bad.Given as goal

abbrev pub invariant-loop-at : goal.invariant-loop-at
invariant-loop-at l = (k : ℕ) (name : List ℕ) → k < l.at → slice_get (texts l.names) k ≡ Some name → is_role_name name ≡ true
