use Rattle.std.proofs.Common.{true, false}
use Rattle.arbac_laws.specs.Obligations.{flat}
use Rattle.arbac_laws.specs.Views.{needs_of}
use Rattle.cert_check.specs.Passing.{IsMissed, by_assign, by_revoke}
use Rattle.cert_check.proofs.PassingLemmas.{counts_first, counts_second}
use Rattle.cert_check.proofs.ImageLemmas.{found_open, none_open}
use Rattle.cert_check.proofs.open.first_open.Goals as goal

-- an obligation to assign is open
pub returns-then-branch-clause-first : goal.returns-then-branch-clause-first
returns-then-branch-clause-first c =
    let rules = c.args.book.now in
    let needs = needs_of c.args.users.now in
    let members = c.args.index.now.members in
    found_open rules members needs c.pass_assigns.new.place
    (counts_first (IsMissed members) (flat (by_assign rules needs) rules.assign) (flat (by_revoke rules needs) rules.revoke) 0
    c.pass_assigns.new.place c.in_ok-pass_assigns.field-0 c.in_ok-pass_assigns.ensures c.if-branch.true)

-- none of these, but one to revoke
pub returns-then-branch-2-clause-first : goal.returns-then-branch-2-clause-first
returns-then-branch-2-clause-first c =
    let rules = c.args.book.now in
    let needs = needs_of c.args.users.now in
    let members = c.args.index.now.members in
    found_open rules members needs c.pass_revokes.new.place
    (counts_second (IsMissed members) (flat (by_assign rules needs) rules.assign) (flat (by_revoke rules needs) rules.revoke) 0
    c.pass_assigns.new.place c.pass_revokes.new.place c.in_ok-pass_assigns.field-0 c.in_ok-pass_revokes.field-0 true
    c.in_ok-pass_assigns.ensures c.if-branch.false c.in_ok-pass_revokes.ensures c.if-branch-2.true)

-- none at all
pub returns-clause-none : goal.returns-clause-none
returns-clause-none c =
    let rules = c.args.book.now in
    let needs = needs_of c.args.users.now in
    let members = c.args.index.now.members in
    none_open rules members needs c.pass_revokes.new.place
    (counts_second (IsMissed members) (flat (by_assign rules needs) rules.assign) (flat (by_revoke rules needs) rules.revoke) 0
    c.pass_assigns.new.place c.pass_revokes.new.place c.in_ok-pass_assigns.field-0 c.in_ok-pass_revokes.field-0 false
    c.in_ok-pass_assigns.ensures c.if-branch.false c.in_ok-pass_revokes.ensures c.if-branch-2.false)
