-- What one line does behind what was read so far, as the private functions say it.
use Rattle.std.specs.Prelude.{ℕ, ◌≡◌, List, map, Option, Some, None, Result, Ok, Err}
use Rattle.arbac_laws.specs.Recorded.{Entry}
use Rattle.text_lines.specs.Lines.{split}
use Rattle.text_lines.specs.Acts.{WrittenAct}
use Rattle.cert_text.specs.declared.cert.Cert.{Cert}
use Rattle.cert_text.specs.declared.cert.Step.{Step}
use Rattle.cert_text.specs.declared.cert_error.CertError.{CertError}
use Rattle.cert_text.specs.declared.cert_error.CertError.TheVariants.{BadLine, UnknownRole, Unended, Memory}
use Rattle.cert_text.specs.declared.line.Line.{Line}
use Rattle.cert_text.specs.declared.line.Line.TheVariants as v
use Rattle.cert_text.specs.declared.sections.Kind.{Kind}
use Rattle.cert_text.specs.declared.sections.Kind.TheVariants as kinds
use Rattle.cert_text.specs.declared.sections.plan.Plan.{Plan}
use Rattle.cert_text.specs.declared.sections.needs.Needs.{Needs}
use Rattle.cert_text.specs.declared.sections.steps.Steps.{Steps}
use Rattle.cert_text.specs.Certificates.{plain_of, users_of, entry_of}
use Rattle.cert_text.specs.LineForms.{WrittenOrigin, LineForm, IsWellFormed, spell}
use Rattle.cert_text.specs.LineForms.{a_reachable, an_unreachable, an_undecided, a_start, an_act, a_need, a_step, a_next, a_user}
use Rattle.cert_text.specs.Drafts.{Draft, plan, list, steps, last, MayStand, Adds, IsReadTo, StandsFor}
use Rattle.cert_text.specs.Faults.{HasUnknown, IsRefused}
use Rattle.cert_text.specs.Views.{TellsAct, TellsOrigin, TellsUser}

-- the kind of certificate that the line names
abbrev pub kind_in : Line → Option Kind
kind_in v.Reachable = Some kinds.Reachable
kind_in v.Unreachable = Some kinds.Unreachable
kind_in (v.Undecided limit) = Some (kinds.Undecided limit)
kind_in line = None

-- what the lines of a reachable certificate say
abbrev pub plan_draft : Plan → Draft
plan_draft lines = plan lines.start.items lines.acts.items

-- what those of an unreachable one say
abbrev pub needs_draft : Needs → Draft
needs_draft lines = list (map users_of lines.needs.items)

-- the recorded steps, and the step after them where it was told
abbrev pub draft_of : ℕ → List Entry → Option Step → Draft
draft_of limit recorded None = steps limit recorded
draft_of limit recorded (Some next) = last limit recorded (entry_of next)

-- what the lines of an undecided one say
abbrev pub steps_draft : Steps → Draft
steps_draft lines = draft_of lines.limit (map entry_of lines.recorded.items) lines.next

-- behind the draft the form is at fault so
abbrev pub IsFormFault : List (List ℕ) → Draft → LineForm → ℕ → CertError → Type 0
IsFormFault names draft form number (BadLine at) = (at ≡ number) × (¬ MayStand draft form)
IsFormFault names draft form number (UnknownRole at) = (at ≡ number) × MayStand draft form × HasUnknown names form
IsFormFault names draft form number Unended = ⊥
IsFormFault names draft form number Memory = Unit {0}

-- the form makes the draft the next, or is at fault so
abbrev pub TakesForm : List (List ℕ) → Draft → LineForm → ℕ → Draft → Result (Unit {0}) CertError → Type 0
TakesForm names draft form number next (Ok done) = Adds names draft form next
TakesForm names draft form number next (Err error) = IsFormFault names draft form number error

-- the same of the form of a line as it was read
abbrev pub Takes : List (List ℕ) → Draft → Line → ℕ → Draft → Result (Unit {0}) CertError → Type 0
Takes names draft v.Reachable number next result = TakesForm names draft a_reachable number next result
Takes names draft v.Unreachable number next result = TakesForm names draft an_unreachable number next result
Takes names draft (v.Undecided limit) number next result = TakesForm names draft (an_undecided limit) number next result
Takes names draft (v.Start profile) number next result = TakesForm names draft (a_start profile) number next result
Takes names draft (v.Act act) number next result =
    (written : WrittenAct) → TellsAct names act written → TakesForm names draft (an_act written) number next result
Takes names draft v.Need number next result = TakesForm names draft a_need number next result
Takes names draft (v.Step origin) number next result =
    (written : WrittenOrigin) → TellsOrigin names origin written → TakesForm names draft (a_step written) number next result
Takes names draft (v.Next origin) number next result =
    (written : WrittenOrigin) → TellsOrigin names origin written → TakesForm names draft (a_next written) number next result
Takes names draft (v.User user) number next result =
    (hits : List (List (List ℕ))) (lacks : List (List ℕ)) → TellsUser names user hits lacks → TakesForm names draft (a_user hits lacks) number next result

-- the line has a form, which makes the draft the next
pub record AddsLine (names : List (List ℕ)) (draft : Draft) (line : List ℕ) (next : Draft) : Type 0 where
  pub form : LineForm
  pub formed : IsWellFormed form
  pub spelled : spell form ≡ line
  pub adds : Adds names draft form next

-- right lines of the text say so much, and this is the rest, whose first line has the number
abbrev pub IsReadUpTo : List (List ℕ) → List ℕ → Draft → ℕ → List ℕ → Type 0
IsReadUpTo names bytes draft number rest = IsReadTo names bytes draft number (split rest).0 (split rest).1

-- read was what the text stands for, or its first fault, unless memory ran out
abbrev pub IsReadAs : List (List ℕ) → List ℕ → Result Cert CertError → Type 0
IsReadAs names bytes (Ok cert) = StandsFor names bytes (plain_of cert)
IsReadAs names bytes (Err error) = IsRefused names bytes error
