use Rattle.std.proofs.Common.{◌∙◌}
use Rattle.toml.specs.View.{array_view}
use Rattle.role_order.specs.Names.{texts}
use Rattle.role_order.proofs.NameLemmas.{texts-push}
use Rattle.question_text.specs.Keys.{entries, list_of}
use Rattle.question_text.specs.Roles.{a_text}
use Rattle.question_text.specs.Answers.{fault_of}
use Rattle.question_text.proofs.OutcomeLemmas.{answers_exit}
use Rattle.question_text.proofs.KeyLemmas.{stops_at, goes_past, ends_at}
use Rattle.question_text.proofs.roles.texts_of.Goals as goal

pub returns-in_err-name : goal.returns-in_err-name
returns-in_err-name c =
    answers_exit (λ names. texts names.items)
    (entries a_text c.args.path.now (list_of (array_view c.args.list.now))) c.in_err-name.field-0.0 c.from_residual-in_err-name.result
    c.from_residual-in_err-name.ensures.1
    (stops_at a_text c.args.path.now c.args.list.now.items c.deref-value-items.result.now c.loop-place.place c.value-item.result
    c.as_str.result.now (texts c.loop-place.names.items) (fault_of c.in_err-name.field-0.0)
    c.deref-value-items.ensures.value c.loop-place-test.true c.value-item.is
    (c.as_str.ensures.value ∙ c.in_ok-at.ensures) c.loop-place.invariant c.in_err-name.ensures)

pub loop-place-preserved : goal.loop-place-preserved
loop-place-preserved c =
    rw (c.in_ok-push.ensures.items, texts-push c.loop-place.names.items c.in_ok-name.name)
    (goes_past a_text c.args.path.now c.args.list.now.items c.deref-value-items.result.now c.loop-place.place c.value-item.result
    c.as_str.result.now (texts c.loop-place.names.items) _
    c.deref-value-items.ensures.value c.loop-place-test.true c.value-item.is
    (c.as_str.ensures.value ∙ c.in_ok-at.ensures) c.loop-place.invariant c.in_ok-name.ensures)

pub returns : goal.returns
returns c =
    ends_at a_text c.args.path.now c.args.list.now.items c.deref-value-items.result.now c.loop-place.place
    (texts c.loop-place.names.items) c.deref-value-items.ensures.value c.loop-place-test.false c.loop-place.invariant
