use Rattle.std.proofs.Common.{take}
use Rattle.arbac_laws.specs.Views.{needs_of}
use Rattle.need_marks.specs.Marks.{AreUserMarks}
use Rattle.cert_check.proofs.index.marks_of.Given as goal

abbrev pub invariant-loop-user : goal.invariant-loop-user
invariant-loop-user l = AreUserMarks l.order (take l.user-index (needs_of l.users)) l.marks.items
