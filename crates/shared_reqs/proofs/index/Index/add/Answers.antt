use Rattle.std.proofs.Common.{◌≡◌, ◌∙◌, ◌++◌, ◌∷◌, [], ap, map, List, Global}
use Rattle.std.specs.declared.sync.Arc.{Arc}
use Rattle.std.proofs.lemmas.List.{map_push}
use Rattle.need_marks.specs.Marks.{IsNeedMark}
use Rattle.shared_reqs.specs.Shared.{MarkedNeed, AreOwnMarks, needs_marked}
use Rattle.shared_reqs.specs.Indexes.{Indexed}
use Rattle.shared_reqs.proofs.IndexLemmas.{marked_more}
use Rattle.shared_reqs.proofs.index.Index.add.Goals as goal

-- the new member has its mark
pub invariant_of-self-2 : goal.invariant_of-self-2
invariant_of-self-2 c =
    let view = λ (req : Arc (List MarkedNeed) Global). needs_marked req.value in
    let order = c.self.inside.order.now in
    let members = c.self.inside.members.items in
    let req = c.args.req in
    let grown : c.push_reserved.new.self.items ≡ members ++ req ∷ [] =
    c.push_reserved.ensures.items ∙ ap (λ (items : List (Arc (List MarkedNeed) Global)). items ++ req ∷ []) c.in_ok-reserve.ensures.items in
    let same : order ≡ c.args.self.now.order = ap (λ (i : Indexed). i.order) c.self.view_is in
    let own : AreOwnMarks order c.deref.result.now = rw (same, c.deref.ensures) c.requires in
    let marked : IsNeedMark order (needs_marked req.value) c.in_ok-mark.mark = rw c.deref.ensures at (c.in_ok-mark.ensures order own) in
    rw (grown, map_push view members req, c.in_ok-insert.ensures.added)
    (marked_more order (map view members) c.self.inside.marks (needs_marked req.value) c.in_ok-mark.mark c.self.invariant marked)
