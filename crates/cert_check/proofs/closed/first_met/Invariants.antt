use Rattle.cert_text.specs.Certificates.{users_of}
use Rattle.cert_check.specs.Asked.{HasStart}
use Rattle.cert_check.proofs.ClosedLemmas.{NoneBefore}
use Rattle.cert_check.proofs.closed.first_met.Given as goal

abbrev pub invariant-loop-place : goal.invariant-loop-place
invariant-loop-place l = NoneBefore users_of (HasStart l.profiles) l.needs l.place
