use Rattle.std.proofs.Common.{◌≡◌, ◌∙◌, ◌++◌, ◌∷◌, [], List, Bor, Global, ap}
use Rattle.std.specs.Prelude.{slice_set}
use Rattle.std.specs.declared.sync.Arc.{Arc}
use Rattle.list_words.proofs.EachLemmas.{each_append}
use Rattle.role_order.specs.Graph.{Graph}
use Rattle.shared_reqs.specs.Shared.{MarkedNeed, AreOwnMarks, IsOwnMark, marked_by, needs_marked}
use Rattle.shared_reqs.proofs.SortedLemmas.{borrowed_push, borrowed_set, chosen_marks, chosen_needs, each_set, needs_push, needs_set, ok_weaker}
use Rattle.shared_reqs.proofs.shared.SharedReq.exchanged_and.Goals as goal

-- the borrowed users are the requirement's, with the other at the target's place and the new one behind
pub returns-clause-needs : goal.returns-clause-needs
returns-clause-needs c =
    let users = c.args.self.now in
    let target = c.args.target in
    let before = c.args.before.now.value in
    let fresh = c.args.fresh.now.value in
    let one = slice_set users target before in
    let list : marked_by c.deref.result.now ≡ one ++ fresh ∷ [] =
    ap (λ (l : List (Bor (Arc MarkedNeed Global))). marked_by l) (c.deref.ensures.value ∙ c.in_ok-push.ensures.items)
    ∙ borrowed_push (slice_set c.in_ok-users.users.items target c.args.before) c.args.fresh one
    (borrowed_set c.in_ok-users.users.items target c.args.before users c.in_ok-users.ensures) in
    let needs : needs_marked (one ++ fresh ∷ []) ≡ slice_set (needs_marked users) target before.need ++ fresh.need ∷ [] =
    needs_push one fresh ∙ ap (λ l. l ++ fresh.need ∷ []) (needs_set users target before) in
    chosen_needs c.sorted.result (marked_by c.deref.result.now) (one ++ fresh ∷ [])
    (slice_set (needs_marked users) target before.need ++ fresh.need ∷ []) c.sorted.ensures list needs

-- each of these has its own mark, and sorting keeps that
pub returns-clause-marks : goal.returns-clause-marks
returns-clause-marks c =
    let users = c.args.self.now in
    let target = c.args.target in
    let before = c.args.before.now.value in
    let fresh = c.args.fresh.now.value in
    let one = slice_set users target before in
    let list : marked_by c.deref.result.now ≡ one ++ fresh ∷ [] =
    ap (λ (l : List (Bor (Arc MarkedNeed Global))). marked_by l) (c.deref.ensures.value ∙ c.in_ok-push.ensures.items)
    ∙ borrowed_push (slice_set c.in_ok-users.users.items target c.args.before) c.args.fresh one
    (borrowed_set c.in_ok-users.users.items target c.args.before users c.in_ok-users.ensures) in
    ok_weaker (λ made. (order : Graph) → AreOwnMarks order (one ++ fresh ∷ []) → AreOwnMarks order made)
    (λ made. (order : Graph) → AreOwnMarks order users → IsOwnMark order before → IsOwnMark order fresh → AreOwnMarks order made) c.sorted.result
    (λ made kept order own mark mark_too. kept order
    (each_append (IsOwnMark order) one (fresh ∷ []) (each_set (IsOwnMark order) users target before own mark) (mark_too, tt)))
    (chosen_marks c.sorted.result (marked_by c.deref.result.now) (one ++ fresh ∷ []) c.sorted.ensures list)
