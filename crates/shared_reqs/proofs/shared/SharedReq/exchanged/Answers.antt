use Rattle.std.proofs.Common.{◌≡◌, ◌∙◌, List, Bor, Global, ap}
use Rattle.std.specs.Prelude.{slice_set}
use Rattle.std.specs.declared.sync.Arc.{Arc}
use Rattle.role_order.specs.Graph.{Graph}
use Rattle.shared_reqs.specs.Shared.{MarkedNeed, AreOwnMarks, IsOwnMark, marked_by, needs_marked}
use Rattle.shared_reqs.proofs.SortedLemmas.{borrowed_set, chosen_marks, chosen_needs, each_set, needs_set, ok_weaker}
use Rattle.shared_reqs.proofs.shared.SharedReq.exchanged.Goals as goal

-- the borrowed users are the requirement's, with the other at the target's place
pub returns-clause-needs : goal.returns-clause-needs
returns-clause-needs c =
    let users = c.args.self.now in
    let target = c.args.target in
    let before = c.args.before.now.value in
    let list : marked_by c.deref.result.now ≡ slice_set users target before =
    ap (λ (l : List (Bor (Arc MarkedNeed Global))). marked_by l) c.deref.ensures.value
    ∙ borrowed_set c.in_ok-users.users.items target c.args.before users c.in_ok-users.ensures in
    chosen_needs c.sorted.result (marked_by c.deref.result.now) (slice_set users target before)
    (slice_set (needs_marked users) target before.need) c.sorted.ensures list (needs_set users target before)

-- each of these has its own mark, and sorting keeps that
pub returns-clause-marks : goal.returns-clause-marks
returns-clause-marks c =
    let users = c.args.self.now in
    let target = c.args.target in
    let before = c.args.before.now.value in
    let list : marked_by c.deref.result.now ≡ slice_set users target before =
    ap (λ (l : List (Bor (Arc MarkedNeed Global))). marked_by l) c.deref.ensures.value
    ∙ borrowed_set c.in_ok-users.users.items target c.args.before users c.in_ok-users.ensures in
    ok_weaker (λ made. (order : Graph) → AreOwnMarks order (slice_set users target before) → AreOwnMarks order made)
    (λ made. (order : Graph) → AreOwnMarks order users → IsOwnMark order before → AreOwnMarks order made) c.sorted.result
    (λ made kept order own mark. kept order (each_set (IsOwnMark order) users target before own mark))
    (chosen_marks c.sorted.result (marked_by c.deref.result.now) (slice_set users target before) c.sorted.ensures list)
