use Rattle.std.proofs.Common.{◌≡◌, ◌∙◌, ap, sym, Some}
use Rattle.std.specs.Prelude.{slice_get}
use Rattle.list_words.proofs.GetLemmas.{get_at, take_all}
use Rattle.role_order.specs.Roles.{IsIn}
use Rattle.need_marks.specs.declared.marks.UserMark.{UserMark}
use Rattle.need_marks.proofs.AimLemmas.{joined_more}
use Rattle.need_marks.proofs.marks.joined.Goals as goal

-- what one mark more has is joined
pub loop-mark-preserved : goal.loop-mark-preserved
loop-mark-preserved c =
    let marks = c.args.marks.now in
    let i = c.loop-mark.mark-index in
    let mark = c.mark-item.result in
    let at : slice_get marks i ≡ Some mark = get_at marks i _ c.loop-mark-test.true ∙ ap Some (sym c.mark-item.is) in
    rw (c.join-aims.ensures, c.join-lacks.ensures) (
      joined_more (λ (one : UserMark) role. IsIn one.aims role) marks i mark c.loop-mark.aims mark.aims at c.loop-mark.invariant.0 (λ role. (λ h. h, λ h. h)),
      joined_more (λ (one : UserMark) role. IsIn one.lacks role) marks i mark c.loop-mark.lacks mark.lacks at c.loop-mark.invariant.1
          (λ role. (λ h. h, λ h. h)),
    )

pub returns-clause-aims : goal.returns-clause-aims
returns-clause-aims c = rw (take_all c.args.marks.now c.loop-mark.mark-index c.loop-mark-test.false) at c.loop-mark.invariant.0

pub returns-clause-lacks : goal.returns-clause-lacks
returns-clause-lacks c = rw (take_all c.args.marks.now c.loop-mark.mark-index c.loop-mark-test.false) at c.loop-mark.invariant.1
