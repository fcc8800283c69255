use Rattle.std.proofs.Common.{◌≡◌, ◌∙◌, sym, ap, arith, take, length-take, Some}
use Rattle.std.specs.Prelude.{slice_get}
use Rattle.list_words.proofs.GetLemmas.{take_all, get_at}
use Rattle.profile_set.proofs.GroupLemmas.{room, tally_more, group_of, one_group}
use Rattle.profile_set.proofs.groups.group.Goals as goal

-- no count is above the number of members so far
pub add_member-requires-clause-room : goal.add_member-requires-clause-room
add_member-requires-clause-room c =
    let h = c.loop-member.invariant in
    let count = length-take c.loop-member.member-index c.args.members.now in
    let less = c.loop-member-test.true in
    room (take c.loop-member.member-index c.args.members.now) c.loop-member.profiles.items h (omega (arith, count, less, c.requires))

-- two groups rise and have equal tallies, so they are one
pub returns-in_err-add_member-clause-one : goal.returns-in_err-add_member-clause-one
returns-in_err-add_member-clause-one c = one_group c.args.members.now

-- one member more raises the tally of his set by one
pub loop-member-preserved : goal.loop-member-preserved
loop-member-preserved c =
    let members = c.args.members.now in
    let i = c.loop-member.member-index in
    let here : slice_get members i ≡ Some c.member-item.result =
    get_at members i c.member-item.result (omega (arith, c.loop-member-test.true)) ∙ ap Some (sym c.member-item.is) in
    rw c.in_ok-add_member.ensures (tally_more members i c.member-item.result c.loop-member.profiles.items here c.loop-member.invariant)

-- tallies of all members are counts
pub returns-clause-group : goal.returns-clause-group
returns-clause-group c =
    let all = take_all c.args.members.now c.loop-member.member-index c.loop-member-test.false in
    group_of c.args.members.now c.loop-member.profiles.items (rw all at c.loop-member.invariant)

pub returns-clause-one : goal.returns-clause-one
returns-clause-one c = one_group c.args.members.now
