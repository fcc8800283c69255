use Rattle.std.proofs.Common.{ℕ, ◌<◌}
use Rattle.std.specs.Prelude.{◌↔◌}
use Rattle.role_order.specs.Roles.{IsIn}
use Rattle.need_marks.proofs.marks.all_roles.Given as goal

abbrev pub invariant-loop-role : goal.invariant-loop-role
invariant-loop-role l = (role : ℕ) → IsIn l.all role ↔ (role < l.role)
