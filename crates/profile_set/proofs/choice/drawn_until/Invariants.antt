use Rattle.std.proofs.Common.{◌*◌}
use Rattle.profile_set.proofs.DrawLemmas.{IsDrawnBelow}
use Rattle.profile_set.proofs.choice.drawn_until.Given as goal

abbrev pub invariant-loop-block : goal.invariant-loop-block
invariant-loop-block l = IsDrawnBelow l.profiles (l.block * 1024) l.choice l.end
