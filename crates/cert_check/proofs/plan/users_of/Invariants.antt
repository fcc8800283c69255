use Rattle.std.proofs.Common.{take}
use Rattle.arbac_policy.specs.Goals.{AreUsers}
use Rattle.cert_check.proofs.plan.users_of.Given as goal

abbrev pub invariant-loop-at : goal.invariant-loop-at
invariant-loop-at l = AreUsers l.profiles (take l.at l.choice) l.users.items
