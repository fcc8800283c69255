use Rattle.std.proofs.Common.{◌≡◌, get_or, refl, sym, ◌∙◌, ap, subst}
use Rattle.list_words.proofs.GetLemmas.{same_some}
use Rattle.mark_bag.specs.Nodes.{IsParting}
use Rattle.mark_bag.proofs.OneLemmas.{item_read}
use Rattle.mark_bag.proofs.NodeLemmas.{regrouped_itself, regrouped_alike, regrouped_parted}
use Rattle.mark_bag.proofs.parting.part_at.Goals as goal

-- no feature parts the node, which is widened
pub returns-in_default-clause-regrouped : goal.returns-in_default-clause-regrouped
returns-in_default-clause-regrouped g c node here =
    let old = c.args.nodes.now.items in
    let read = c.index_mut.result.now in
    let same : read ≡ node = same_some read node (sym (item_read old c.args.at read c.requires.place c.index_mut.ensures.value) ∙ here) in
    regrouped_alike g.M.Mark.within node.parts.items c.args.marks.now old c.args.at node c.widen.new.self here
    (c.widen.ensures.common ∙ ap (λ n. n.common) same) (ap (λ parts. parts.items) c.widen.ensures.parts ∙ ap (λ n. n.parts.items) same)

pub returns-in_err-reserve-clause-regrouped : goal.returns-in_err-reserve-clause-regrouped
returns-in_err-reserve-clause-regrouped g c node here = rw c.reserve.ensures.items
    (regrouped_itself g.M.Mark.within node.parts.items c.args.marks.now c.args.nodes.now.items)

pub part_by-requires : goal.part_by-requires
part_by-requires g c =
    let read = c.index_mut-2.result.now in
    let value : read ≡ get_or c.args.nodes.now.items c.args.at read =
    c.index_mut-2.ensures.value ∙ ap (λ list. get_or list c.args.at read) c.reserve.ensures.items in
    c.requires.marks read (item_read c.args.nodes.now.items c.args.at read c.requires.place value)

-- the node is as it was
pub returns-in_err-other-clause-regrouped : goal.returns-in_err-other-clause-regrouped
returns-in_err-other-clause-regrouped g c node here =
    let old = c.args.nodes.now.items in
    let read = c.index_mut-2.result.now in
    let value : read ≡ get_or old c.args.at read = c.index_mut-2.ensures.value ∙ ap (λ list. get_or list c.args.at read) c.reserve.ensures.items in
    let same : read ≡ node = same_some read node (sym (item_read old c.args.at read c.requires.place value) ∙ here) in
    let kept : c.part_by.new.node ≡ node = c.in_err-other.ensures.kept ∙ same in
    rw c.reserve.ensures.items
    (regrouped_alike g.M.Mark.within node.parts.items c.args.marks.now old c.args.at node c.part_by.new.node here
    (ap (λ n. n.common) kept) (ap (λ n. n.parts.items) kept))

pub returns-clause-regrouped : goal.returns-clause-regrouped
returns-clause-regrouped g c node here =
    let old = c.args.nodes.now.items in
    let read = c.index_mut-2.result.now in
    let value : read ≡ get_or old c.args.at read = c.index_mut-2.ensures.value ∙ ap (λ list. get_or list c.args.at read) c.reserve.ensures.items in
    let same : read ≡ node = same_some read node (sym (item_read old c.args.at read c.requires.place value) ∙ here) in
    let one = c.part_by.new.node in
    let other = c.in_ok-other.other in
    let parted : IsParting g.M.Mark.within node.parts.items c.args.marks.now one other =
    subst (λ parts. IsParting g.M.Mark.within parts c.args.marks.now one other) (ap (λ n. n.parts.items) same) c.in_ok-other.ensures.parted in
    rw (c.push_reserved.ensures.items, c.reserve.ensures.items)
    (regrouped_parted g.M.Mark.within node.parts.items c.args.marks.now old c.args.at node one other here refl parted)
