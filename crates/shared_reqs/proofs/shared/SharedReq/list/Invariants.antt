use Rattle.std.proofs.Common.{◌≡◌, take}
use Rattle.shared_reqs.specs.Shared.{marked_by, marked_of}
use Rattle.shared_reqs.proofs.shared.SharedReq.list.Given as goal

abbrev pub invariant-loop-user : goal.invariant-loop-user
invariant-loop-user l = marked_by l.list.items ≡ take l.user-index (marked_of l.user-items)
