use Rattle.std.proofs.Common.{ℕ, ◌<◌}
use Rattle.std.specs.Prelude.{◌↔◌}
use Rattle.role_order.specs.Roles.{IsIn, Rises}
use Rattle.role_order.specs.Closures.{HasAt}
use Rattle.role_order.proofs.closure.juniors_in.Given as goal

abbrev pub invariant-loop-junior : goal.invariant-loop-junior
invariant-loop-junior l = record {
  rises : Rises l.juniors;
  each : (junior : ℕ) → IsIn l.juniors junior ↔ ((junior < l.junior) × HasAt l.above junior l.senior);
}
