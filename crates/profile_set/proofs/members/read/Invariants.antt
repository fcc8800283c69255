use Rattle.std.proofs.Common.{Some}
use Rattle.profile_set.proofs.RowLemmas.{IsReadTo}
use Rattle.profile_set.proofs.members.read.Given as goal

abbrev pub invariant-loop-given : goal.invariant-loop-given
invariant-loop-given l = IsReadTo (λ s. Some s.now) l.order.names l.bytes l.given-iterator l.rows.items
