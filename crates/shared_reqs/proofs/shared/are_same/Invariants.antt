use Rattle.std.proofs.Common.{◌≡◌, take}
use Rattle.shared_reqs.specs.Shared.{needs_shared}
use Rattle.shared_reqs.proofs.shared.are_same.Given as goal

abbrev pub invariant-loop-at : goal.invariant-loop-at
invariant-loop-at l = take l.at (needs_shared l.users) ≡ take l.at (needs_shared l.others)
