use Rattle.std.proofs.Common.{◌≡◌, take}
use Rattle.shared_reqs.specs.Shared.{marked_of, marks_marked}
use Rattle.shared_reqs.proofs.shared.SharedReq.marks.Given as goal

abbrev pub invariant-loop-user : goal.invariant-loop-user
invariant-loop-user l = l.marks.items ≡ take l.user-index (marks_marked (marked_of l.user-items))
