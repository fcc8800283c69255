use Rattle.std.proofs.Common.{◌∙◌, ap, sym, refl}
use Rattle.std.specs.Option.{option_map}
use Rattle.policy_text.specs.Views.{form_of_line}
use Rattle.policy_text.specs.Steps.{listing_view}
use Rattle.policy_text.proofs.StepLemmas.{formless, line_faults, line_adds, tells_of}
use Rattle.policy_text.proofs.listing.Listing.add_line.Goals as goal

pub returns-in_default-clause-fault : goal.returns-in_default-clause-fault
returns-in_default-clause-fault c =
    formless (listing_view c.args.self.now) c.args.line.now c.args.number (sym c.in_ok-form.ensures ∙ ap (option_map form_of_line) c.in_default.is)
    (λ e. refl)

pub add_form-requires-clause-kind : goal.add_form-requires-clause-kind
add_form-requires-clause-kind c =
    sym (tells_of c.args.line.now (form_of_line c.in-Some.form) (sym c.in_ok-form.ensures ∙ ap (option_map form_of_line) c.in-Some.is)) ∙ c.requires.kind

pub returns-clause-added : goal.returns-clause-added
returns-clause-added c =
    line_adds (listing_view c.args.self.now) (listing_view c.add_form.new.self) c.args.line.now (form_of_line c.in-Some.form) c.add_form.result
    (sym c.in_ok-form.ensures ∙ ap (option_map form_of_line) c.in-Some.is) c.add_form.ensures.added

pub returns-clause-fault : goal.returns-clause-fault
returns-clause-fault c =
    line_faults (listing_view c.args.self.now) c.args.line.now (form_of_line c.in-Some.form) c.args.number c.add_form.result
    (sym c.in_ok-form.ensures ∙ ap (option_map form_of_line) c.in-Some.is) c.add_form.ensures.fault
