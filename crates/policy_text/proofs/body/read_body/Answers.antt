use Rattle.std.proofs.Common.{◌∙◌, sym, arith, inr}
use Rattle.std.proofs.lemmas.Result.{err_from_is_err_and}
use Rattle.policy_text.specs.Runs.{behind_edges}
use Rattle.policy_text.specs.Steps.{order_view, body_view, run_view}
use Rattle.cond_text.proofs.CutLemmas.{cut_shorter, cut_within}
use Rattle.policy_text.proofs.StepLemmas.{passes_more, body_stop, begun, late_line, ends_here, goes_on, has_no_end}
use Rattle.policy_text.proofs.body.read_body.Goals as goal

pub returns-then-is_empty-clause-read : goal.returns-then-is_empty-clause-read
returns-then-is_empty-clause-read c =
    ends_here (order_view c.args.order.now)
    (run_view c.args.order.now c.loop-line.body) c.args.text.now c.loop-line.rest.now c.in-Some.line.now c.in-Some.after.now c.args.first c.loop-line.number
    c.loop-line.invariant.passed c.requires.order (sym c.in-Some.ensures) (sym c.ends.ensures ∙ c.if-ends.true)
    (sym c.is_empty.ensures ∙ c.if-is_empty.true)

pub returns-then-ends-clause-fault : goal.returns-then-ends-clause-fault
returns-then-ends-clause-fault c =
    inr (goes_on (order_view c.args.order.now)
    (run_view c.args.order.now c.loop-line.body) c.args.text.now c.loop-line.rest.now c.in-Some.line.now c.in-Some.after.now c.args.first c.loop-line.number
    c.loop-line.invariant.passed c.requires.order (sym c.in-Some.ensures) (sym c.ends.ensures ∙ c.if-ends.true)
    (sym c.is_empty.ensures ∙ c.if-is_empty.false))

pub add_line-requires-clause-short : goal.add_line-requires-clause-short
add_line-requires-clause-short c =
    let within = cut_within 10 c.loop-line.rest.now c.in-Some.line.now c.in-Some.after.now (sym c.in-Some.ensures) in
    omega (arith, within, c.loop-line.invariant.room, c.requires.short)

pub add_line-requires-clause-late : goal.add_line-requires-clause-late
add_line-requires-clause-late c =
    late_line (behind_edges (body_view c.loop-line.body)) c.loop-line.rest.now c.in-Some.line.now c.in-Some.after.now
    (sym c.in-Some.ensures) c.loop-line.invariant.fresh

pub returns-in_err-add_line-clause-fault : goal.returns-in_err-add_line-clause-fault
returns-in_err-add_line-clause-fault c =
    let p = err_from_is_err_and c.from_residual.result c.from_residual.ensures.1 in
    rw (p.1, p.2) (body_stop (order_view c.args.order.now)
    (run_view c.args.order.now c.loop-line.body) c.args.text.now c.loop-line.rest.now c.in-Some.line.now c.in-Some.after.now c.args.first c.loop-line.number _
    c.loop-line.invariant.passed (sym c.in-Some.ensures) (inr c.requires.order) c.in_err-add_line.ensures.fault)

pub loop-line-smaller : goal.loop-line-smaller
loop-line-smaller c = cut_shorter 10 c.loop-line.rest.now c.in-Some.line.now c.in-Some.after.now (sym c.in-Some.ensures)

pub loop-line-preserved : goal.loop-line-preserved
loop-line-preserved c =
    let shorter = cut_shorter 10 c.loop-line.rest.now c.in-Some.line.now c.in-Some.after.now (sym c.in-Some.ensures) in
    record {
      passed = passes_more (order_view c.args.order.now) (run_view c.args.order.now c.loop-line.body)
          (run_view c.args.order.now c.add_line.new.self) c.args.text.now c.loop-line.rest.now c.in-Some.line.now
          c.in-Some.after.now c.args.first c.loop-line.number c.loop-line.invariant.passed (sym c.in-Some.ensures) c.in_ok-add_line.ensures.added;
      room = omega (arith, shorter, c.loop-line.invariant.room);
      fresh = λ z. absurd (begun (run_view c.args.order.now c.loop-line.body)
          (run_view c.args.order.now c.add_line.new.self) c.in-Some.line.now c.in_ok-add_line.ensures.added
          (late_line (behind_edges (body_view c.loop-line.body)) c.loop-line.rest.now c.in-Some.line.now c.in-Some.after.now
          (sym c.in-Some.ensures) c.loop-line.invariant.fresh) z);
    }

pub returns-clause-fault : goal.returns-clause-fault
returns-clause-fault c =
    has_no_end (order_view c.args.order.now)
    (run_view c.args.order.now c.loop-line.body) c.args.text.now c.loop-line.rest.now c.args.first c.loop-line.number c.loop-line.invariant.passed
    c.requires.order (sym c.in_default.ensures)
