-- Lines as the code reads them.
use Rattle.std.specs.Prelude.{ℕ, ◌≡◌, List, Option, Some, None}
use Rattle.arbac_policy.specs.declared.act.Act.{Act}
use Rattle.arbac_policy.specs.declared.conjunct.Conjunct.{Conjunct}
use Rattle.arbac_laws.specs.Views.{need_of}
use Rattle.cond_text.specs.Named.{IsUnknown}
use Rattle.text_lines.specs.Acts.{WrittenAct}
use Rattle.cert_text.specs.declared.cert.StepFrom.{StepFrom}
use Rattle.cert_text.specs.declared.line.Line.{Line}
use Rattle.cert_text.specs.declared.line.Line.TheVariants as v
use Rattle.cert_text.specs.Certificates.{origin_of}
use Rattle.cert_text.specs.LineForms.{WrittenOrigin, LineForm, IsWellFormed, spell}
use Rattle.cert_text.specs.LineForms.{a_reachable, an_unreachable, an_undecided, a_start, an_act, a_need, a_step, a_next, a_user}
use Rattle.cert_text.specs.Drafts.{NamesAct, NamesOrigin, NamesNeed}
use Rattle.cert_text.specs.Faults.{HasUnknownRole, HasUnknown}

-- the act that was read, and none where its role is unknown
abbrev pub TellsAct : List (List ℕ) → Option Act → WrittenAct → Type 0
TellsAct names (Some act) written = NamesAct names written act
TellsAct names None written = IsUnknown names written.role

-- the origin that was read, and none where its role is unknown
abbrev pub TellsOrigin : List (List ℕ) → Option StepFrom → WrittenOrigin → Type 0
TellsOrigin names (Some origin) written = NamesOrigin names written (origin_of origin)
TellsOrigin names None written = HasUnknownRole names written

-- the user requirement that was read, and none where a role of it is unknown
abbrev pub TellsUser : List (List ℕ) → Option Conjunct → List (List (List ℕ)) → List (List ℕ) → Type 0
TellsUser names (Some user) hits lacks = NamesNeed names hits lacks (need_of user)
TellsUser names None hits lacks = HasUnknown names (a_user hits lacks)

-- the line, as it was read, has this form
abbrev pub Tells : List (List ℕ) → Line → LineForm → Type 0
Tells names v.Reachable form = form ≡ a_reachable
Tells names v.Unreachable form = form ≡ an_unreachable
Tells names (v.Undecided limit) form = form ≡ an_undecided limit
Tells names (v.Start profile) form = form ≡ a_start profile
Tells names (v.Act act) form = (written : WrittenAct) × (form ≡ an_act written) × TellsAct names act written
Tells names v.Need form = form ≡ a_need
Tells names (v.Step origin) form = (written : WrittenOrigin) × (form ≡ a_step written) × TellsOrigin names origin written
Tells names (v.Next origin) form = (written : WrittenOrigin) × (form ≡ a_next written) × TellsOrigin names origin written
Tells names (v.User user) form =
    (hits : List (List (List ℕ))) × (lacks : List (List ℕ)) × (form ≡ a_user hits lacks) × TellsUser names user hits lacks

-- the bytes are those of the line, and of no other form
pub record IsLine (names : List (List ℕ)) (bytes : List ℕ) (line : Line) : Type 0 where
  pub form : LineForm
  pub formed : IsWellFormed form
  pub spelled : spell form ≡ bytes
  pub only : (other : LineForm) → IsWellFormed other → spell other ≡ bytes → other ≡ form
  pub tells : Tells names line form
