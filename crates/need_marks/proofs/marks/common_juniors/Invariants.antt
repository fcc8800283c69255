use Rattle.std.proofs.Common.{ℕ, length}
use Rattle.std.specs.Prelude.{◌↔◌}
use Rattle.role_order.specs.Roles.{IsIn, IsWithin, AreBelow}
use Rattle.role_order.specs.Reach.{seniors_of}
use Rattle.need_marks.proofs.marks.common_juniors.Given as goal

-- what is asked of the roles that are left, of those that are left in common, is what is asked at first
abbrev pub invariant-loop-role : goal.invariant-loop-role
invariant-loop-role l =
    AreBelow (length l.order.names) l.common
    × ((role : ℕ) → (IsIn l.common role × IsWithin l.role-iterator (seniors_of l.order role))
    ↔ (IsIn l.fn.set role × IsWithin l.fn.roles (seniors_of l.order role)))
