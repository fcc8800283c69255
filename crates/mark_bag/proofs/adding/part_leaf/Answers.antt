use Rattle.std.proofs.Common.{◌≡◌, length, refl, sym, ◌∙◌, ap, subst}
use Rattle.list_words.specs.Lists.{IsOneOf}
use Rattle.list_words.proofs.GetLemmas.{same_some, get_below}
use Rattle.mark_bag.specs.Index.{AreOwn}
use Rattle.mark_bag.proofs.OneLemmas.{item_read}
use Rattle.mark_bag.proofs.NodeLemmas.{same_regrouped}
use Rattle.mark_bag.proofs.LeafLemmas.{leaves_regrouped}
use Rattle.mark_bag.proofs.adding.part_leaf.Goals as goal

pub own_marks-requires : goal.own_marks-requires
own_marks-requires g c item o =
    let leaf = c.index.result.now in
    let here = item_read c.args.leaves.now.items c.args.at leaf c.requires.place c.index.ensures in
    let lies = c.requires.leaves leaf (c.args.at, here) item (subst (λ list. IsOneOf list item) c.deref.ensures.value o) in
    get_below c.args.marks.now item lies.0 lies.1

pub part_at-requires-clause-marks : goal.part_at-requires-clause-marks
part_at-requires-clause-marks g c node here =
    let leaf = c.index.result.now in
    let same : leaf ≡ node =
    same_some leaf node (sym (item_read c.args.leaves.now.items c.args.at leaf c.requires.place c.index.ensures) ∙ here) in
    ap length c.deref-2.ensures.value ∙ c.in_ok-own.ensures.long ∙ ap length c.deref.ensures.value ∙ ap (λ n. length n.parts.items) same

pub returns-clause-leaves : goal.returns-clause-leaves
returns-clause-leaves g c =
    let leaf = c.index.result.now in
    let here = item_read c.args.leaves.now.items c.args.at leaf c.requires.place c.index.ensures in
    let own : AreOwn c.args.marks.now leaf.parts.items c.deref-2.result.now =
    rw (c.deref-2.ensures.value, ← c.deref.ensures.value) c.in_ok-own.ensures in
    leaves_regrouped g.M.Mark.within g.met.M.Mark.through c.args.marks.now g.met.M.Mark.itself c.args.leaves.now.items c.part_at.new.nodes.items
    leaf.parts.items c.deref-2.result.now own (c.part_at.ensures.regrouped leaf here) c.requires.leaves

pub returns-clause-same : goal.returns-clause-same
returns-clause-same g c =
    let leaf = c.index.result.now in
    let here = item_read c.args.leaves.now.items c.args.at leaf c.requires.place c.index.ensures in
    same_regrouped g.M.Mark.within leaf.parts.items c.deref-2.result.now c.args.leaves.now.items c.part_at.new.nodes.items c.args.at leaf here refl
    (c.part_at.ensures.regrouped leaf here)
