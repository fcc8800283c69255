use Rattle.std.proofs.Common.{◌∙◌}
use Rattle.toml.specs.View.{array_view}
use Rattle.question_text.specs.Keys.{entries, list_of}
use Rattle.question_text.specs.Answers.{fault_of}
use Rattle.question_text.proofs.OutcomeLemmas.{answers_exit}
use Rattle.question_text.proofs.KeyLemmas.{stops_at, goes_past, ends_at}
use Rattle.question_text.proofs.entries.each_entry.Goals as goal

pub returns-in_err-entry : goal.returns-in_err-entry
returns-in_err-entry g c =
    let reads = g.R.ReadEntry.reads c.args.reader.now in
    answers_exit (λ values. values.items)
    (entries reads c.args.path.now (list_of (array_view c.args.list.now))) c.in_err-entry.field-0.0 c.from_residual-in_err-entry.result
    c.from_residual-in_err-entry.ensures.1
    (stops_at reads c.args.path.now c.args.list.now.items c.deref-value-items.result.now c.loop-place.place c.value-item.result c.as_str.result.now
    c.loop-place.values.items (fault_of c.in_err-entry.field-0.0)
    c.deref-value-items.ensures.value c.loop-place-test.true c.value-item.is
    (c.as_str.ensures.value ∙ c.in_ok-at.ensures) c.loop-place.invariant c.in_err-entry.ensures)

pub loop-place-preserved : goal.loop-place-preserved
loop-place-preserved g c =
    rw c.in_ok-push.ensures.items
    (goes_past (g.R.ReadEntry.reads c.args.reader.now) c.args.path.now c.args.list.now.items c.deref-value-items.result.now c.loop-place.place
    c.value-item.result c.as_str.result.now c.loop-place.values.items c.in_ok-entry.entry
    c.deref-value-items.ensures.value c.loop-place-test.true c.value-item.is
    (c.as_str.ensures.value ∙ c.in_ok-at.ensures) c.loop-place.invariant c.in_ok-entry.ensures)

pub returns : goal.returns
returns g c =
    ends_at (g.R.ReadEntry.reads c.args.reader.now) c.args.path.now c.args.list.now.items c.deref-value-items.result.now c.loop-place.place
    c.loop-place.values.items c.deref-value-items.ensures.value c.loop-place-test.false c.loop-place.invariant
