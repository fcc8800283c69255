use Rattle.std.proofs.Common.{ℕ, ◌≡◌, List, Option, Some, None, Result, Ok, Err, IfOk, IfSome, IfNone, sym, ◌∙◌, ap}
use Rattle.std.specs.declared.alloc.AllocError.{AllocError}
use Rattle.cert_text.specs.declared.line.Line.{Line}
use Rattle.cert_text.specs.LineForms.{LineForm, IsWellFormed, spell}
use Rattle.cert_text.specs.Spelling.{form_of}
use Rattle.cert_text.specs.Told.{Agrees}
use Rattle.cert_text.specs.Views.{Tells, IsLine}
use Rattle.list_words.proofs.GetLemmas.{same_some}
use Rattle.cert_text.proofs.LineFormLemmas.{form_found, form_is}
use Rattle.cert_text.proofs.line.read_line.Goals as goal

-- the form that is read is the only one that the bytes spell
line_is : (names : List (List ℕ)) (bytes : List ℕ) (read : Result (Option Line) AllocError) → IfOk read (λ o. Agrees (Tells names) o (form_of bytes))
    → IfOk read (λ o. IfSome o (IsLine names bytes))
line_is names bytes (Err e) a = tt
line_is names bytes (Ok None) a = tt
line_is names bytes (Ok (Some line)) a =
    let f = form_is bytes a.value a.given_is in record {
      form = a.value;
      formed = f.0;
      spelled = f.1;
      only = λ other h s. same_some other a.value (sym (form_found other h) ∙ ap form_of s ∙ a.given_is);
      tells = a.tells;
    }

differ : (form : LineForm) → None ≡ Some form → ⊥
differ form same = cc

-- bytes that aren't read spell no form
none_is : (names : List (List ℕ)) (bytes : List ℕ) (read : Result (Option Line) AllocError) → IfOk read (λ o. Agrees (Tells names) o (form_of bytes))
    → IfOk read (λ o. IfNone o ((form : LineForm) → IsWellFormed form → ¬ (spell form ≡ bytes)))
none_is names bytes (Err e) a = tt
none_is names bytes (Ok (Some line)) a = tt
none_is names bytes (Ok None) a = λ form h s. differ form (sym a ∙ ap form_of (sym s) ∙ form_found form h)

pub returns-clause-line : goal.returns-clause-line
returns-clause-line c = line_is c.args.order.now.names c.args.bytes.now c.line_of.result c.line_of.ensures

pub returns-clause-none : goal.returns-clause-none
returns-clause-none c = none_is c.args.order.now.names c.args.bytes.now c.line_of.result c.line_of.ensures
