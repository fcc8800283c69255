use Rattle.std.proofs.Common.{◌∙◌, ap, sym, arith}
use Rattle.std.specs.Option.{option_map}
use Rattle.policy_text.specs.Views.{form_of_line}
use Rattle.policy_text.specs.Steps.{run_view}
use Rattle.policy_text.proofs.StepLemmas.{formless, line_faults, line_adds, tells_of, condition_short}
use Rattle.policy_text.proofs.body.Body.add_line.Goals as goal

pub returns-in_default-clause-fault : goal.returns-in_default-clause-fault
returns-in_default-clause-fault c =
    formless (run_view c.args.order.now c.args.self.now) c.args.line.now c.args.number
    (sym c.in_ok-form.ensures ∙ ap (option_map form_of_line) c.in_default.is) c.requires.unended

pub add_form-requires-clause-late : goal.add_form-requires-clause-late
add_form-requires-clause-late c =
    λ t. c.requires.late
    (tells_of c.args.line.now (form_of_line c.in-Some.form) (sym c.in_ok-form.ensures ∙ ap (option_map form_of_line) c.in-Some.is) ∙ t)

pub add_form-requires-clause-short : goal.add_form-requires-clause-short
add_form-requires-clause-short c =
    let short = condition_short c.args.line.now (form_of_line c.in-Some.form) (sym c.in_ok-form.ensures ∙ ap (option_map form_of_line) c.in-Some.is) in
    omega (arith, short, c.requires.short)

pub returns-clause-added : goal.returns-clause-added
returns-clause-added c =
    line_adds (run_view c.args.order.now c.args.self.now) (run_view c.args.order.now c.add_form.new.self) c.args.line.now
    (form_of_line c.in-Some.form) c.add_form.result
    (sym c.in_ok-form.ensures ∙ ap (option_map form_of_line) c.in-Some.is) c.add_form.ensures.added

pub returns-clause-fault : goal.returns-clause-fault
returns-clause-fault c =
    line_faults (run_view c.args.order.now c.args.self.now) c.args.line.now (form_of_line c.in-Some.form) c.args.number c.add_form.result
    (sym c.in_ok-form.ensures ∙ ap (option_map form_of_line) c.in-Some.is) c.add_form.ensures.fault
