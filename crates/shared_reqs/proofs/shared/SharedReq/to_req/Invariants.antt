use Rattle.std.proofs.Common.{◌≡◌, take}
use Rattle.shared_reqs.specs.Shared.{needs_shared}
use Rattle.shared_reqs.proofs.shared.SharedReq.to_req.Given as goal

abbrev pub invariant-loop-user : goal.invariant-loop-user
invariant-loop-user l = l.users.items ≡ take l.user-index (needs_shared l.user-items)
