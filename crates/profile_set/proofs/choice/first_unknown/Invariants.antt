use Rattle.std.proofs.Common.{take}
use Rattle.profile_set.specs.Draws.{AreProfiles}
use Rattle.profile_set.proofs.choice.first_unknown.Given as goal

abbrev pub invariant-loop-at : goal.invariant-loop-at
invariant-loop-at l = AreProfiles l.profiles (take l.at l.choice)
