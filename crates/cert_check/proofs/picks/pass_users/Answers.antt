use Rattle.cert_needs.specs.Wanted.{needs_wanted}
use Rattle.cert_check.proofs.PickLemmas.{counts_some, itself_open, users_count}
use Rattle.cert_check.proofs.picks.pass_users.Goals as goal

-- the target's own act is open
pub returns-then-branch-clause-counts : goal.returns-then-branch-clause-counts
returns-then-branch-clause-counts c =
    let members = c.args.index.now.members in
    let users = needs_wanted c.args.users.now in
    itself_open members c.args.hit.now users c.args.target c.args.place.now c.pass_closed.new.place c.in_ok-pass_closed.field-0
    (counts_some members _ c.in_ok-is_open.is_open c.in_ok-pass_closed.field-0 c.args.place.now c.pass_closed.new.place
    c.in_ok-is_open.ensures.missed
    c.in_ok-pass_closed.ensures.same c.in_ok-pass_closed.ensures.open c.in_ok-pass_closed.ensures.passed)
    c.if-branch.true

-- it is passed, and then the others'
pub returns-clause-counts : goal.returns-clause-counts
returns-clause-counts c =
    let members = c.args.index.now.members in
    users_count members c.args.hit.now c.args.users.now c.args.target c.args.place.now c.pass_closed.new.place c.pass_others.new.place
    c.in_ok-pass_closed.field-0 c.in_ok-found.found
    (counts_some members _ c.in_ok-is_open.is_open c.in_ok-pass_closed.field-0 c.args.place.now c.pass_closed.new.place
    c.in_ok-is_open.ensures.missed
    c.in_ok-pass_closed.ensures.same c.in_ok-pass_closed.ensures.open c.in_ok-pass_closed.ensures.passed)
    c.if-branch.false
    (rw c.is_missed_by.ensures.users at c.in_ok-found.ensures.counts)
