use Rattle.std.proofs.Common.{ℕ, take}
use Rattle.std.specs.Prelude.{◌↔◌}
use Rattle.list_words.specs.Lists.{Some_of}
use Rattle.role_order.specs.Roles.{IsIn}
use Rattle.need_marks.specs.declared.marks.UserMark.{UserMark}
use Rattle.need_marks.proofs.marks.joined.Given as goal

abbrev pub invariant-loop-mark : goal.invariant-loop-mark
invariant-loop-mark l =
    ((role : ℕ) → IsIn l.aims role ↔ Some_of (λ (mark : UserMark). IsIn mark.aims role) (take l.mark-index l.marks))
    × ((role : ℕ) → IsIn l.lacks role ↔ Some_of (λ (mark : UserMark). IsIn mark.lacks role) (take l.mark-index l.marks))
