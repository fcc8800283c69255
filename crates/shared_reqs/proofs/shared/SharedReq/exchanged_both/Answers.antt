use Rattle.std.proofs.Common.{◌≡◌, ◌∙◌, List, Bor, Global, ap}
use Rattle.std.specs.Prelude.{slice_set}
use Rattle.std.specs.declared.sync.Arc.{Arc}
use Rattle.role_order.specs.Graph.{Graph}
use Rattle.shared_reqs.specs.Shared.{MarkedNeed, AreOwnMarks, IsOwnMark, marked_by, needs_marked}
use Rattle.shared_reqs.proofs.SortedLemmas.{borrowed_set, chosen_marks, chosen_needs, each_set, needs_set, ok_weaker}
use Rattle.shared_reqs.proofs.shared.SharedReq.exchanged_both.Goals as goal

-- the borrowed users are the requirement's, with the others at the two places, one after the other
pub returns-clause-needs : goal.returns-clause-needs
returns-clause-needs c =
    let users = c.args.self.now in
    let target = c.args.target in
    let place = c.args.place in
    let before = c.args.before.now.value in
    let admin = c.args.admin.now.value in
    let one = slice_set users target before in
    let list : marked_by c.deref.result.now ≡ slice_set one place admin =
    ap (λ (l : List (Bor (Arc MarkedNeed Global))). marked_by l) c.deref.ensures.value
    ∙ borrowed_set (slice_set c.in_ok-users.users.items target c.args.before) place c.args.admin one
    (borrowed_set c.in_ok-users.users.items target c.args.before users c.in_ok-users.ensures) in
    let needs : needs_marked (slice_set one place admin) ≡ slice_set (slice_set (needs_marked users) target before.need) place admin.need =
    needs_set one place admin ∙ ap (λ l. slice_set l place admin.need) (needs_set users target before) in
    chosen_needs c.sorted.result (marked_by c.deref.result.now) (slice_set one place admin)
    (slice_set (slice_set (needs_marked users) target before.need) place admin.need) c.sorted.ensures list needs

-- each of these has its own mark, and sorting keeps that
pub returns-clause-marks : goal.returns-clause-marks
returns-clause-marks c =
    let users = c.args.self.now in
    let target = c.args.target in
    let place = c.args.place in
    let before = c.args.before.now.value in
    let admin = c.args.admin.now.value in
    let one = slice_set users target before in
    let list : marked_by c.deref.result.now ≡ slice_set one place admin =
    ap (λ (l : List (Bor (Arc MarkedNeed Global))). marked_by l) c.deref.ensures.value
    ∙ borrowed_set (slice_set c.in_ok-users.users.items target c.args.before) place c.args.admin one
    (borrowed_set c.in_ok-users.users.items target c.args.before users c.in_ok-users.ensures) in
    ok_weaker (λ made. (order : Graph) → AreOwnMarks order (slice_set one place admin) → AreOwnMarks order made)
    (λ made. (order : Graph) → AreOwnMarks order users → IsOwnMark order before → IsOwnMark order admin → AreOwnMarks order made) c.sorted.result
    (λ made kept order own mark mark_too. kept order
    (each_set (IsOwnMark order) one place admin (each_set (IsOwnMark order) users target before own mark) mark_too))
    (chosen_marks c.sorted.result (marked_by c.deref.result.now) (slice_set one place admin) c.sorted.ensures list)
