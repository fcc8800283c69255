use Rattle.std.proofs.Common.{◌<◌, length}
use Rattle.list_words.specs.Lists.{Each}
use Rattle.arbac_laws.specs.Obligations.{flat}
use Rattle.arbac_laws.specs.Views.{needs_of}
use Rattle.cert_check.specs.Passing.{GoesOn, IsMissed, by_range, by_role, given_by}
use Rattle.cert_check.proofs.open.pass_range.Given as goal

abbrev pub invariant-loop-role : goal.invariant-loop-role
invariant-loop-role l = record {
  known : Each (λ role. role < length l.member.book.now.order.names) l.role-iterator;
  on : GoesOn (IsMissed l.member.index.now.members) (by_range l.member.book.now (given_by l.change) l.hit l.range (needs_of l.member.users.now)) l.fn.place
      (flat (by_role l.member.book.now (given_by l.change) l.hit (needs_of l.member.users.now)) l.role-iterator) l.place;
}
