use Rattle.std.proofs.Common.{ap}
use Rattle.arbac_laws.specs.Obligations.{flat}
use Rattle.arbac_laws.specs.Views.{needs_of}
use Rattle.cert_check.specs.Passing.{IsMissed, by_range, by_role, given_by}
use Rattle.cert_check.proofs.PassingLemmas.{goes_on, goes_stop, goes_end}
use Rattle.cert_check.proofs.open.pass_range.Goals as goal

-- an act with this role is open
pub returns-then-branch : goal.returns-then-branch
returns-then-branch c =
    let needs = needs_of c.args.member.now.users.now in
    let whole = by_range c.args.member.now.book.now (given_by c.args.change.now) c.args.hit.now c.args.range.now needs in
    let f = by_role c.args.member.now.book.now (given_by c.args.change.now) c.args.hit.now needs in
    goes_stop (IsMissed c.args.member.now.index.now.members) whole
    (flat f c.loop-role.role-iterator) (f c.in-Some.role) (flat f c.next.new.self)
    c.args.place.now c.loop-role.place c.pass_role.new.place c.in_ok-pass_role.field-0
    (ap (flat f) c.in-Some.ensures.steps) c.loop-role.invariant.on c.in_ok-pass_role.ensures c.if-branch.true

-- those with this role are passed
pub loop-role-preserved : goal.loop-role-preserved
loop-role-preserved c =
    let needs = needs_of c.args.member.now.users.now in
    let whole = by_range c.args.member.now.book.now (given_by c.args.change.now) c.args.hit.now c.args.range.now needs in
    let f = by_role c.args.member.now.book.now (given_by c.args.change.now) c.args.hit.now needs in
    record {
      known = (rw c.in-Some.ensures.steps at c.loop-role.invariant.known).1;
      on = goes_on (IsMissed c.args.member.now.index.now.members) whole
          (flat f c.loop-role.role-iterator) (f c.in-Some.role) (flat f c.next.new.self)
          c.args.place.now c.loop-role.place c.pass_role.new.place c.in_ok-pass_role.field-0
          (ap (flat f) c.in-Some.ensures.steps) c.loop-role.invariant.on c.in_ok-pass_role.ensures c.if-branch.false;
    }

-- all are passed
pub returns : goal.returns
returns c =
    let needs = needs_of c.args.member.now.users.now in
    let whole = by_range c.args.member.now.book.now (given_by c.args.change.now) c.args.hit.now c.args.range.now needs in
    let f = by_role c.args.member.now.book.now (given_by c.args.change.now) c.args.hit.now needs in
    goes_end (IsMissed c.args.member.now.index.now.members) whole
    (flat f c.loop-role.role-iterator) c.args.place.now c.loop-role.place (ap (flat f) c.in-None.ensures.steps.0) c.loop-role.invariant.on
