use Rattle.std.proofs.Common.{◌≡◌, ◌∙◌, ◌≤◌, true, false, length, sym, arith}
use Rattle.need_marks.specs.Marks.{IsPart, MayCover}
use Rattle.need_marks.proofs.MarkTestLemmas.{part_by}
use Rattle.need_marks.proofs.marks.NeedQueryQueryNeedMark.may_fit.Goals as goal

-- all else fits, and the heaviest decides
pub returns-then-is_part : goal.returns-then-is_part
returns-then-is_part c =
    let query = c.args.self.now in
    let mark = c.args.mark.now in
    let few : mark.users ≤ length query.each.now = omega (arith, c.if-mark-self.false) in
    let all : IsPart mark.all query.all = (part_by mark.all query.all c.is_part.result c.is_part.ensures).0 c.if-is_part.true in
    (λ passes. record { all = all; heaviest = c.lies_in_one.ensures.0 passes; users = few }, λ may. c.lies_in_one.ensures.1 may.heaviest)

pub returns-else-is_part : goal.returns-else-is_part
returns-else-is_part c =
    let query = c.args.self.now in
    let mark = c.args.mark.now in (
      λ passes. absurd (let never : false ≡ true = sym c.if-is_part.false ∙ passes in cc),
      λ (may : MayCover query mark). (part_by mark.all query.all c.is_part.result c.is_part.ensures).1 may.all,
    )
