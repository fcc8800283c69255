use Rattle.std.proofs.Common.{take}
use Rattle.profile_set.specs.Tallies.{IsTally}
use Rattle.profile_set.proofs.groups.group.Given as goal

abbrev pub invariant-loop-member : goal.invariant-loop-member
invariant-loop-member l = IsTally (take l.member-index l.members) l.profiles.items
