use Rattle.std.proofs.Common.{◌≡◌, [], ◌∷◌, ◌++◌, Some, refl, inr}
use Rattle.std.specs.Prelude.{slice_get, slice_set}
use Rattle.std.proofs.lemmas.Result.{on_ok_weaker, on_err_weaker}
use Rattle.mark_bag.specs.Index.{AreGroups}
use Rattle.mark_bag.proofs.OneLemmas.{item_read}
use Rattle.mark_bag.proofs.NodeLemmas.{all_kept}
use Rattle.mark_bag.proofs.GroupLemmas.{all_same, all_through, all_set, in_set, group_still, groups_set}
use Rattle.mark_bag.proofs.adding.add_to_groups.Goals as goal

pub returns-in_err-at-clause-all : goal.returns-in_err-at-clause-all
returns-in_err-at-clause-all g c = all_same c.args.groups.now.items c.group_for.new.groups.items c.group_for.ensures.same

pub add_to_group-requires-clause-group : goal.add_to_group-requires-clause-group
add_to_group-requires-clause-group g c =
    let group = c.index_mut.result.now in
    let here = item_read c.group_for.new.groups.items c.in_ok-at.at group c.in_ok-at.ensures.place c.index_mut.ensures.value in
    c.group_for.ensures.groups group (c.in_ok-at.at, here)

pub returns-clause-added : goal.returns-clause-added
returns-clause-added g c =
    let within = g.M.Mark.within in
    let through = g.met.M.Mark.through in
    let marks = c.args.marks.now in
    let mark = c.args.mark.now in
    let groups = c.group_for.new.groups.items in
    let still : AreGroups within (marks ++ mark ∷ []) groups = λ group o. group_still within through marks mark group (c.group_for.ensures.groups group o) in
    on_ok_weaker c.add_to_group.result
    (λ added. groups_set within through (marks ++ mark ∷ []) groups c.in_ok-at.at c.add_to_group.new.group still added)
    c.add_to_group.ensures.added

pub returns-clause-all : goal.returns-clause-all
returns-clause-all g c =
    let old = c.args.groups.now.items in
    let groups = c.group_for.new.groups.items in
    let group = c.index_mut.result.now in
    let now = c.add_to_group.new.group in
    let here : slice_get groups c.in_ok-at.at ≡ Some group = item_read groups c.in_ok-at.at group c.in_ok-at.ensures.place c.index_mut.ensures.value in
    all_through old groups (slice_set groups c.in_ok-at.at now) (all_same old groups c.group_for.ensures.same)
    (all_set groups c.in_ok-at.at group now here
    (all_kept c.add_to_group.result group.parts.items now.parts.items c.args.item c.add_to_group.ensures.more c.add_to_group.ensures.same))

pub returns-clause-there : goal.returns-clause-there
returns-clause-there g c =
    let groups = c.group_for.new.groups.items in
    let group = c.index_mut.result.now in
    let now = c.add_to_group.new.group in
    let here : slice_get groups c.in_ok-at.at ≡ Some group = item_read groups c.in_ok-at.at group c.in_ok-at.ensures.place c.index_mut.ensures.value in
    on_ok_weaker c.add_to_group.result
    (λ more. in_set groups c.in_ok-at.at group now c.args.item here ((more c.args.item).1 (inr refl)))
    c.add_to_group.ensures.more

pub returns-clause-kept : goal.returns-clause-kept
returns-clause-kept g c =
    on_err_weaker c.add_to_group.result
    (λ kept. groups_set g.M.Mark.within g.met.M.Mark.through c.args.marks.now c.group_for.new.groups.items c.in_ok-at.at c.add_to_group.new.group
    c.group_for.ensures.groups kept)
    c.add_to_group.ensures.kept
