use Rattle.std.proofs.Common.{Vec}
use Rattle.std.specs.declared.alloc.Global.{Global}
use Rattle.arbac_policy.specs.declared.conjunct.Conjunct.{Conjunct}
use Rattle.arbac_laws.specs.Views.{needs_of}
use Rattle.cert_check.specs.Asked.{IsUncovered}
use Rattle.cert_check.proofs.ClosedLemmas.{NoneBefore}
use Rattle.cert_check.proofs.closed.first_uncovered.Given as goal

abbrev pub invariant-loop-place : goal.invariant-loop-place
invariant-loop-place l = NoneBefore (λ (users : Vec Conjunct Global). needs_of users.items) (IsUncovered l.index.members) l.goals l.place
