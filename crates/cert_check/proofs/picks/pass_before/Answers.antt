use Rattle.std.proofs.Common.{List, subst, arith}
use Rattle.arbac_laws.specs.Needs.{Need}
use Rattle.arbac_laws.specs.Views.{need_of, needs_of}
use Rattle.cert_check.specs.Passing.{Counts, IsMissed, by_picks}
use Rattle.cert_check.proofs.PickLemmas.{before_is, length_mapped, marks_long}
use Rattle.cert_check.proofs.picks.pass_before.Goals as goal

pub marks_before-requires : goal.marks_before-requires
marks_before-requires c =
    let long = marks_long c.args.member.now.book.now.order (needs_of c.args.member.now.users.now) c.args.member.now.marks.now c.requires.member.marks in
    let same = length_mapped need_of c.args.member.now.users.now in
    let l = c.requires.target in omega (arith, long, same, l)

-- what is wanted of the users is what the requirement has, with the target's exchanged
pub returns : goal.returns
returns c =
    subst (λ l. Counts (IsMissed c.args.member.now.index.now.members) l c.args.place.now c.in_ok-found.found c.pass_possible.new.place)
    (before_is c.args.hit.now (needs_of c.args.member.now.users.now) c.args.target (need_of c.args.before.now))
    (subst (λ (needs : List Need). Counts (IsMissed c.args.member.now.index.now.members) (by_picks c.args.hit.now needs c.args.target)
    c.args.place.now c.in_ok-found.found c.pass_possible.new.place) c.in_ok-users.ensures.needs c.in_ok-found.ensures)
