use Rattle.std.proofs.Common.{ℕ, ◌<◌, length, take}
use Rattle.std.specs.Prelude.{◌↔◌}
use Rattle.list_words.specs.Lists.{Some_of}
use Rattle.role_order.specs.Roles.{IsIn, IsWithin, less_roles}
use Rattle.role_order.specs.Reach.{seniors_of}
use Rattle.need_marks.proofs.marks.UserMark.of.Given as goal

abbrev pub invariant-loop-hit : goal.invariant-loop-hit
invariant-loop-hit l = (role : ℕ) → IsIn l.aims role
    ↔ Some_of (λ hit. (role < length l.order.names) × IsWithin (less_roles hit l.lacks) (seniors_of l.order role)) (take l.hit-index l.hits)
