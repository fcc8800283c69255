use Rattle.std.proofs.Common.{drop}
use Rattle.arbac_laws.specs.Obligations.{flat}
use Rattle.arbac_laws.specs.Views.{needs_of}
use Rattle.cert_check.specs.Passing.{GoesOn, IsMissed, by_revoke}
use Rattle.cert_check.proofs.open.pass_revokes.Given as goal

abbrev pub invariant-loop-at : goal.invariant-loop-at
invariant-loop-at l =
    GoesOn (IsMissed l.member.index.now.members) (flat (by_revoke l.member.book.now (needs_of l.member.users.now)) l.member.book.now.revoke) l.fn.place
    (flat (by_revoke l.member.book.now (needs_of l.member.users.now)) (drop l.at l.member.book.now.revoke)) l.place
