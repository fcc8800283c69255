use Rattle.std.proofs.Common.{◌≡◌, ◌<◌, [], ◌∷◌, ◌++◌, length, ◌∙◌, ap, subst}
use Rattle.mark_bag.specs.declared.bag.TheConstants.{MOST}
use Rattle.mark_bag.specs.Index.{AreGroups, IsInGroups}
use Rattle.mark_bag.proofs.IndexLemmas.{index_same, index_more}
use Rattle.mark_bag.proofs.bag.add.Goals as goal

pub add_to_groups-requires-clause-groups : goal.add_to_groups-requires-clause-groups
add_to_groups-requires-clause-groups g c = rw (c.deref.ensures.value, c.make_room.ensures.same) c.requires.groups_lie

pub returns-in_err-add_to_groups-clause-index : goal.returns-in_err-add_to_groups-clause-index
returns-in_err-add_to_groups-clause-index g c =
    let same : c.deref.result.now ≡ c.args.marks.now.items = c.deref.ensures.value ∙ c.make_room.ensures.same in
    let new = c.add_to_groups.new.groups.items in
    let groups : AreGroups g.M.Mark.within c.args.marks.now.items new =
    subst (λ marks. AreGroups g.M.Mark.within marks new) same c.in_err-add_to_groups.ensures.kept in
    rw c.make_room.ensures.same
    (index_same g.M.Mark.within c.args.marks.now.items c.args.groups.now.items new c.requires c.add_to_groups.ensures.all groups)

pub returns-clause-index : goal.returns-clause-index
returns-clause-index g c =
    let marks = c.args.marks.now.items in
    let new = c.add_to_groups.new.groups.items in
    let same : c.deref.result.now ≡ marks = c.deref.ensures.value ∙ c.make_room.ensures.same in
    let groups : AreGroups g.M.Mark.within (marks ++ c.args.mark ∷ []) new =
    subst (λ list. AreGroups g.M.Mark.within (list ++ c.args.mark ∷ []) new) same c.in_ok-add_to_groups.ensures.added in
    let few : length marks < MOST = subst (λ n. n < MOST) (c.len.ensures ∙ c.args.marks.now.ok.0) c.if-len-ge-MOST.false in
    let last : c.len-item.result ≡ length marks = c.len-item.ensures ∙ c.make_room.new.marks.ok.0 ∙ ap length c.make_room.ensures.same in
    let there : IsInGroups new (length marks) = subst (λ k. IsInGroups new k) last c.in_ok-add_to_groups.ensures.there in
    rw (c.push_reserved.ensures.items, c.make_room.ensures.same)
    (index_more g.M.Mark.within marks c.args.groups.now.items new c.requires c.add_to_groups.ensures.all c.args.mark few groups there)
