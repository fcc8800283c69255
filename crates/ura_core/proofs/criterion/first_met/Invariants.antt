use Rattle.ura_core.specs.Searched.{HasNoneBefore}
use Rattle.ura_core.proofs.criterion.first_met.Given as goal

abbrev pub invariant-loop-place : goal.invariant-loop-place
invariant-loop-place g l = HasNoneBefore (g.C.Criterion.met l.criterion) l.items l.place
