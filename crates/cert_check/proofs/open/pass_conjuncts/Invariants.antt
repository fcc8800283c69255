use Rattle.std.proofs.Common.{drop, Some}
use Rattle.arbac_laws.specs.Obligations.{flat}
use Rattle.arbac_laws.specs.Views.{needs_of}
use Rattle.cert_check.specs.Passing.{GoesOn, IsMissed, by_range}
use Rattle.cert_check.proofs.open.pass_conjuncts.Given as goal

abbrev pub invariant-loop-conjunct : goal.invariant-loop-conjunct
invariant-loop-conjunct l =
    GoesOn (IsMissed l.member.index.now.members)
    (flat (λ conjunct. by_range l.member.book.now (Some conjunct) l.hit l.range (needs_of l.member.users.now)) (needs_of l.conjuncts)) l.fn.place
    (flat (λ conjunct. by_range l.member.book.now (Some conjunct) l.hit l.range (needs_of l.member.users.now))
    (drop l.conjunct-index (needs_of l.conjuncts))) l.place
