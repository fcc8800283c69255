use Rattle.std.proofs.Common.{rules, ◌<◌, ◌≤◌, ◌+◌, length, drop}
use Rattle.list_words.proofs.GetLemmas.{get_there}
use Rattle.arbac_laws.specs.Obligations.{flat}
use Rattle.arbac_laws.specs.Views.{needs_of}
use Rattle.cert_check.specs.Passing.{IsMissed, by_revoke}
use Rattle.cert_check.proofs.PassingLemmas.{goes_on, goes_stop, goes_end, flat_next, flat_end}
use Rattle.cert_check.proofs.open.pass_revokes.Goals as goal

-- an act of this rule is open
pub returns-then-branch : goal.returns-then-branch
returns-then-branch c =
    let list = c.args.member.now.book.now.revoke in
    let at = c.loop-at.at in
    let f = by_revoke c.args.member.now.book.now (needs_of c.args.member.now.users.now) in
    let below : at < length list = search rules in
    let rule = get_there list at below in
    goes_stop (IsMissed c.args.member.now.index.now.members) (flat f list) (flat f (drop at list)) (f rule.0) (flat f (drop (at + 1) list))
    c.args.place.now c.loop-at.place c.pass_revoke.new.place c.in_ok-pass_revoke.field-0
    (flat_next f list at rule.0 rule.1) c.loop-at.invariant (c.in_ok-pass_revoke.ensures rule.0 rule.1) c.if-branch.true

-- those of this rule are passed
pub loop-at-preserved : goal.loop-at-preserved
loop-at-preserved c =
    let list = c.args.member.now.book.now.revoke in
    let at = c.loop-at.at in
    let f = by_revoke c.args.member.now.book.now (needs_of c.args.member.now.users.now) in
    let below : at < length list = search rules in
    let rule = get_there list at below in
    goes_on (IsMissed c.args.member.now.index.now.members) (flat f list) (flat f (drop at list)) (f rule.0) (flat f (drop (at + 1) list))
    c.args.place.now c.loop-at.place c.pass_revoke.new.place c.in_ok-pass_revoke.field-0
    (flat_next f list at rule.0 rule.1) c.loop-at.invariant (c.in_ok-pass_revoke.ensures rule.0 rule.1) c.if-branch.false

-- all are passed
pub returns : goal.returns
returns c =
    let list = c.args.member.now.book.now.revoke in
    let at = c.loop-at.at in
    let f = by_revoke c.args.member.now.book.now (needs_of c.args.member.now.users.now) in
    let past : length list ≤ at = search rules in
    goes_end (IsMissed c.args.member.now.index.now.members) (flat f list) (flat f (drop at list)) c.args.place.now c.loop-at.place
    (flat_end f list at past) c.loop-at.invariant
