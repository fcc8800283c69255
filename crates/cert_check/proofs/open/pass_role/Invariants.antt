use Rattle.std.proofs.Common.{drop}
use Rattle.arbac_laws.specs.Obligations.{flat_places}
use Rattle.arbac_laws.specs.Views.{needs_of}
use Rattle.cert_check.specs.Passing.{GoesOn, IsMissed, by_role, by_target, given_by}
use Rattle.cert_check.proofs.open.pass_role.Given as goal

abbrev pub invariant-loop-target : goal.invariant-loop-target
invariant-loop-target l =
    GoesOn (IsMissed l.member.index.now.members)
    (by_role l.member.book.now (given_by l.change) l.hit (needs_of l.member.users.now) l.role) l.fn.place
    (flat_places (by_target l.member.book.now (given_by l.change) l.hit (needs_of l.member.users.now) l.role) l.target
    (drop l.target (needs_of l.member.users.now))) l.place
