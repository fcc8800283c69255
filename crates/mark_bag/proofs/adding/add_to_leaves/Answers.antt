use Rattle.std.proofs.Common.{◌≡◌, ◌<◌, [], ◌∷◌, ◌++◌, Some, length, refl, ◌∙◌, ap, subst}
use Rattle.std.specs.Prelude.{slice_get, slice_set}
use Rattle.mark_bag.specs.Index.{LiesUnder}
use Rattle.mark_bag.proofs.OneLemmas.{item_read}
use Rattle.mark_bag.proofs.NodeLemmas.{on_err, same_through, more_through, same_alike, over_alike}
use Rattle.mark_bag.proofs.LeafLemmas.{one_more, leaves_more}
use Rattle.mark_bag.proofs.adding.add_to_leaves.Goals as goal

-- want of room in the leaf leaves it as it was
pub returns-in_err-reserve-clause-kept : goal.returns-in_err-reserve-clause-kept
returns-in_err-reserve-clause-kept g c =
    let leaves = c.leaf_for.new.leaves.items in
    let leaf = c.index_mut-leaf.result.now in
    let here : slice_get leaves c.in_ok-at.at ≡ Some leaf = item_read leaves c.in_ok-at.at leaf c.in_ok-at.ensures.place c.index_mut-leaf.ensures.value in
    on_err c.from_residual-in_err-reserve.result
    (over_alike leaves c.in_ok-at.at leaf (record leaf { parts = c.reserve.new.self }) here refl c.reserve.ensures.items
    (LiesUnder g.M.Mark.within c.args.marks.now) c.leaf_for.ensures.leaves)

pub returns-in_err-reserve-clause-same : goal.returns-in_err-reserve-clause-same
returns-in_err-reserve-clause-same g c =
    let leaves = c.leaf_for.new.leaves.items in
    let leaf = c.index_mut-leaf.result.now in
    let here : slice_get leaves c.in_ok-at.at ≡ Some leaf = item_read leaves c.in_ok-at.at leaf c.in_ok-at.ensures.place c.index_mut-leaf.ensures.value in
    on_err c.from_residual-in_err-reserve.result
    (same_through c.args.leaves.now.items leaves (slice_set leaves c.in_ok-at.at (record leaf { parts = c.reserve.new.self })) c.leaf_for.ensures.same
    (same_alike leaves c.in_ok-at.at leaf (record leaf { parts = c.reserve.new.self }) here refl c.reserve.ensures.items))

pub returns-clause-added : goal.returns-clause-added
returns-clause-added g c =
    let leaves = c.leaf_for.new.leaves.items in
    let leaf = c.index_mut-leaf.result.now in
    let here : slice_get leaves c.in_ok-at.at ≡ Some leaf = item_read leaves c.in_ok-at.at leaf c.in_ok-at.ensures.place c.index_mut-leaf.ensures.value in
    let parts : c.put.new.self.parts.items ≡ leaf.parts.items ++ c.args.item ∷ [] =
    c.put.ensures.parts ∙ ap (λ list. list ++ c.args.item ∷ []) c.reserve.ensures.items in
    let kept : 0 < length leaf.parts.items → g.M.Mark.within c.put.new.self.common leaf.common =
    subst (λ list. 0 < length list → g.M.Mark.within c.put.new.self.common leaf.common) c.reserve.ensures.items c.put.ensures.kept in
    leaves_more g.M.Mark.within g.met.M.Mark.through c.args.marks.now leaves c.in_ok-at.at leaf c.put.new.self c.args.item c.args.mark.now here parts
    c.put.ensures.mark kept c.requires.next c.leaf_for.ensures.leaves

pub returns-clause-more : goal.returns-clause-more
returns-clause-more g c =
    let leaves = c.leaf_for.new.leaves.items in
    let leaf = c.index_mut-leaf.result.now in
    let here : slice_get leaves c.in_ok-at.at ≡ Some leaf = item_read leaves c.in_ok-at.at leaf c.in_ok-at.ensures.place c.index_mut-leaf.ensures.value in
    let parts : c.put.new.self.parts.items ≡ leaf.parts.items ++ c.args.item ∷ [] =
    c.put.ensures.parts ∙ ap (λ list. list ++ c.args.item ∷ []) c.reserve.ensures.items in
    more_through c.args.leaves.now.items leaves (slice_set leaves c.in_ok-at.at c.put.new.self) c.args.item c.leaf_for.ensures.same
    (one_more leaves c.in_ok-at.at leaf c.put.new.self c.args.item here parts)
