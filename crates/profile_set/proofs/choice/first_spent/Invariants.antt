use Rattle.std.proofs.Common.{◌≡◌, ◌+◌, length, take}
use Rattle.profile_set.specs.Draws.{AreFew}
use Rattle.profile_set.proofs.DrawLemmas.{AreUses}
use Rattle.profile_set.proofs.choice.first_spent.Given as goal

abbrev pub invariant-loop-at : goal.invariant-loop-at
invariant-loop-at l = record {
  long : length l.used ≡ 1024;
  uses : AreUses l.from (take l.at l.choice) l.used;
  few : AreFew l.profiles l.from (l.from + 1024) (take l.at l.choice);
}
