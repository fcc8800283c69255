use Rattle.std.proofs.Common.{◌-◌, ◌+◌, ◌∙◌, length}
use Rattle.role_order.specs.Reach.{count_up}
use Rattle.arbac_laws.specs.Obligations.{flat}
use Rattle.cert_needs.specs.Wanted.{needs_wanted}
use Rattle.cert_check.specs.Passing.{IsMissed, by_other}
use Rattle.cert_check.proofs.PassingLemmas.{goes_on, goes_stop, goes_end, count_next, count_end}
use Rattle.cert_check.proofs.picks.pass_others.Goals as goal

-- the act of this one is open
pub returns-then-branch-clause-counts : goal.returns-then-branch-clause-counts
returns-then-branch-clause-counts c =
    let f = by_other c.args.hit.now (needs_wanted c.args.users.now) c.args.target in
    let n = length c.args.users.now in
    let at = c.loop-admin.admin in
    goes_stop (IsMissed c.args.index.now.members) (flat f (count_up 0 n)) (flat f (count_up at (n - at))) (f at)
    (flat f (count_up (at + 1) (n - (at + 1)))) c.args.place.now c.loop-admin.place c.pass_other.new.place c.in_ok-pass_other.field-0
    (count_next f n at c.loop-admin-test.true) c.loop-admin.invariant.on
    (rw c.loop-admin.invariant.users at c.in_ok-pass_other.ensures.counts) c.if-branch.true

-- the act of this one is passed
pub loop-admin-preserved : goal.loop-admin-preserved
loop-admin-preserved c =
    let f = by_other c.args.hit.now (needs_wanted c.args.users.now) c.args.target in
    let n = length c.args.users.now in
    let at = c.loop-admin.admin in
    record {
      users = c.pass_other.ensures.users ∙ c.loop-admin.invariant.users;
      marks = c.pass_other.ensures.marks ∙ c.loop-admin.invariant.marks;
      on = goes_on (IsMissed c.args.index.now.members) (flat f (count_up 0 n)) (flat f (count_up at (n - at))) (f at)
          (flat f (count_up (at + 1) (n - (at + 1)))) c.args.place.now c.loop-admin.place c.pass_other.new.place c.in_ok-pass_other.field-0
          (count_next f n at c.loop-admin-test.true) c.loop-admin.invariant.on
          (rw c.loop-admin.invariant.users at c.in_ok-pass_other.ensures.counts) c.if-branch.false;
    }

-- all of them are passed
pub returns-clause-counts : goal.returns-clause-counts
returns-clause-counts c =
    let f = by_other c.args.hit.now (needs_wanted c.args.users.now) c.args.target in
    let n = length c.args.users.now in
    let at = c.loop-admin.admin in
    goes_end (IsMissed c.args.index.now.members) (flat f (count_up 0 n)) (flat f (count_up at (n - at))) c.args.place.now c.loop-admin.place
    (count_end f n at c.loop-admin-test.false) c.loop-admin.invariant.on
