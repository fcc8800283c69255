use Rattle.std.proofs.Common.{◌≡◌, ◌∙◌, ◌++◌, ◌∷◌, [], List, Some, Global, map, ap, sym, subst}
use Rattle.std.specs.declared.sync.Arc.{Arc}
use Rattle.std.specs.Prelude.{slice_get}
use Rattle.list_words.proofs.GetLemmas.{get_at}
use Rattle.need_marks.specs.declared.marks.UserMark.{UserMark}
use Rattle.need_marks.specs.Marks.{AreUserMarks}
use Rattle.shared_reqs.specs.Shared.{MarkedNeed, marked_of, marks_marked, needs_marked}
use Rattle.shared_reqs.proofs.SharedLemmas.{marked_each, seen_all, seen_next}
use Rattle.shared_reqs.proofs.shared.SharedReq.marks.Goals as goal

-- the mark of one user more
pub loop-user-preserved : goal.loop-user-preserved
loop-user-preserved c =
    let users = c.deref-user-items.result.now in
    let one = c.user-item.result in
    let at = c.loop-user.user-index in
    let here : slice_get users at ≡ Some one = get_at users at one c.loop-user-test.true ∙ ap Some (sym c.user-item.is) in
    let mark : c.mark.result.now ≡ one.value.mark = c.mark.ensures ∙ ap (λ (m : MarkedNeed). m.mark) c.deref.ensures in
    seen_next (λ (m : MarkedNeed). m.mark) users at one c.loop-user.marks.items c.push.new.self.items here c.loop-user.invariant
    (c.in_ok-push.ensures.items ∙ ap (λ (m : UserMark). c.loop-user.marks.items ++ m ∷ []) mark)

-- all users are marked, each of them by its own mark
pub returns-clause-own : goal.returns-clause-own
returns-clause-own c = λ order own.
    let users = c.deref-user-items.result.now in
    let view = λ (u : Arc MarkedNeed Global). u.value in
    let all : marked_of users ≡ c.args.self.now = ap (map view) c.deref-user-items.ensures.value ∙ c.self.view_is in
    let is : c.loop-user.marks.items ≡ marks_marked c.args.self.now =
    seen_all (λ (m : MarkedNeed). m.mark) users c.loop-user.user-index c.loop-user.marks.items c.loop-user-test.false c.loop-user.invariant
    ∙ ap (λ (l : List MarkedNeed). marks_marked l) all in
    subst (AreUserMarks order (needs_marked c.args.self.now)) (sym is) (marked_each order c.args.self.now own)
