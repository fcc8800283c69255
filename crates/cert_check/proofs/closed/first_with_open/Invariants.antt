use Rattle.cert_text.specs.Certificates.{users_of}
use Rattle.cert_check.specs.Asked.{HasOpen}
use Rattle.cert_check.proofs.ClosedLemmas.{NoneBefore}
use Rattle.cert_check.proofs.closed.first_with_open.Given as goal

abbrev pub invariant-loop-place : goal.invariant-loop-place
invariant-loop-place l = NoneBefore users_of (HasOpen l.book l.index.members) l.needs l.place
