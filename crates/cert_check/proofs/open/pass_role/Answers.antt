use Rattle.std.proofs.Common.{◌+◌, drop, arith}
use Rattle.list_words.proofs.GetLemmas.{get_there, get_map}
use Rattle.arbac_laws.specs.Obligations.{flat_places}
use Rattle.arbac_laws.specs.Views.{need_of, needs_of}
use Rattle.cert_check.specs.Passing.{IsMissed, by_role, by_target, given_by}
use Rattle.cert_check.proofs.PassingLemmas.{goes_on, goes_stop, goes_end, places_next, places_end}
use Rattle.cert_check.proofs.PickLemmas.{length_mapped}
use Rattle.cert_check.proofs.open.pass_role.Goals as goal

-- an act on this target is open
pub returns-then-branch : goal.returns-then-branch
returns-then-branch c =
    let users = c.args.member.now.users.now in
    let needs = needs_of users in
    let whole = by_role c.args.member.now.book.now (given_by c.args.change.now) c.args.hit.now needs c.args.role in
    let at = c.loop-target.target in
    let f = by_target c.args.member.now.book.now (given_by c.args.change.now) c.args.hit.now needs c.args.role in
    let user = get_there users at c.loop-target-test.true in
    goes_stop (IsMissed c.args.member.now.index.now.members) whole
    (flat_places f at (drop at needs)) (f at (need_of user.0)) (flat_places f (at + 1) (drop (at + 1) needs))
    c.args.place.now c.loop-target.place c.pass_target.new.place c.in_ok-pass_target.field-0
    (places_next f needs at (need_of user.0) (get_map need_of users at user.0 user.1)) c.loop-target.invariant
    (c.in_ok-pass_target.ensures user.0 user.1) c.if-branch.true

-- those on this target are passed
pub loop-target-preserved : goal.loop-target-preserved
loop-target-preserved c =
    let users = c.args.member.now.users.now in
    let needs = needs_of users in
    let whole = by_role c.args.member.now.book.now (given_by c.args.change.now) c.args.hit.now needs c.args.role in
    let at = c.loop-target.target in
    let f = by_target c.args.member.now.book.now (given_by c.args.change.now) c.args.hit.now needs c.args.role in
    let user = get_there users at c.loop-target-test.true in
    goes_on (IsMissed c.args.member.now.index.now.members) whole
    (flat_places f at (drop at needs)) (f at (need_of user.0)) (flat_places f (at + 1) (drop (at + 1) needs))
    c.args.place.now c.loop-target.place c.pass_target.new.place c.in_ok-pass_target.field-0
    (places_next f needs at (need_of user.0) (get_map need_of users at user.0 user.1)) c.loop-target.invariant
    (c.in_ok-pass_target.ensures user.0 user.1) c.if-branch.false

-- all are passed
pub returns : goal.returns
returns c =
    let needs = needs_of c.args.member.now.users.now in
    let whole = by_role c.args.member.now.book.now (given_by c.args.change.now) c.args.hit.now needs c.args.role in
    let at = c.loop-target.target in
    let f = by_target c.args.member.now.book.now (given_by c.args.change.now) c.args.hit.now needs c.args.role in
    let long = length_mapped need_of c.args.member.now.users.now in
    goes_end (IsMissed c.args.member.now.index.now.members) whole
    (flat_places f at (drop at needs)) c.args.place.now c.loop-target.place
    (places_end f needs at (let past = c.loop-target-test.false in omega (arith, long, past))) c.loop-target.invariant
