use Rattle.std.proofs.Common.{◌∙◌, sym, arith}
use Rattle.std.specs.Prelude.{codes}
use Rattle.std.proofs.lemmas.Result.{err_from_is_err_and}
use Rattle.std.proofs.lemmas.Slice.Eq.{bytes_eq-Decides}
use Rattle.cond_text.proofs.CutLemmas.{cut_shorter}
use Rattle.cert_text.proofs.StepLemmas.{read_more}
use Rattle.cert_text.proofs.ReadLemmas.{at_end, stops, ends_early}
use Rattle.cert_text.proofs.reading.read_lines.Goals as goal

pub returns-then-is : goal.returns-then-is
returns-then-is g c =
    let is = (bytes_eq-Decides c.in-Some.line.now (codes "end")).0 (sym c.is.ensures ∙ c.if-is.true) in
    λ bytes read. c.end_at.ensures c.args.order.now.names bytes
    (at_end c.args.order.now.names bytes c.loop-line.rest.now c.in-Some.line.now c.in-Some.after.now (g.S.Section.draft c.loop-line.section)
    c.loop-line.number (c.loop-line.invariant.read bytes read) (sym c.in-Some.ensures) is)

pub returns-in_err-add_line : goal.returns-in_err-add_line
returns-in_err-add_line g c =
    let p = err_from_is_err_and c.from_residual.result c.from_residual.ensures.1 in
    λ bytes read. rw (p.1, p.2) (stops c.args.order.now.names bytes c.loop-line.rest.now c.in-Some.line.now c.in-Some.after.now
    (g.S.Section.draft c.loop-line.section) c.loop-line.number _ (c.loop-line.invariant.read bytes read) (sym c.in-Some.ensures)
    c.in_err-add_line.ensures.fault)

pub loop-line-smaller : goal.loop-line-smaller
loop-line-smaller g c = cut_shorter 10 c.loop-line.rest.now c.in-Some.line.now c.in-Some.after.now (sym c.in-Some.ensures)

pub loop-line-preserved : goal.loop-line-preserved
loop-line-preserved g c =
    let shorter = cut_shorter 10 c.loop-line.rest.now c.in-Some.line.now c.in-Some.after.now (sym c.in-Some.ensures) in
    record {
      read = λ bytes read. read_more c.args.order.now.names bytes c.loop-line.rest.now c.in-Some.line.now c.in-Some.after.now
          (g.S.Section.draft c.loop-line.section) (g.S.Section.draft c.add_line.new.section) c.loop-line.number
          (c.loop-line.invariant.read bytes read) (sym c.in-Some.ensures) c.in_ok-add_line.ensures.added;
      room = omega (arith, shorter, c.loop-line.invariant.room);
    }

pub returns : goal.returns
returns g c =
    λ bytes read. ends_early c.args.order.now.names bytes c.loop-line.rest.now (g.S.Section.draft c.loop-line.section) c.loop-line.number
    (c.loop-line.invariant.read bytes read) (sym c.in_default.ensures)
