-- The first fault of a text that is no certificate text.
use Rattle.std.specs.Prelude.{ℕ, ◌≡◌, ◌+◌, ◌⊎◌, List, [], ◌∷◌, codes, Result, Ok, Err}
use Rattle.list_words.specs.Lists.{Some_of}
use Rattle.cond_text.specs.Named.{IsUnknown}
use Rattle.text_lines.specs.Lines.{split}
use Rattle.cert_text.specs.declared.cert.Cert.{Cert}
use Rattle.cert_text.specs.declared.cert_error.CertError.{CertError}
use Rattle.cert_text.specs.declared.cert_error.CertError.TheVariants.{BadLine, UnknownRole, Unended, Memory}
use Rattle.cert_text.specs.LineForms.{WrittenOrigin, a_goal, an_assign, a_weak, LineForm, IsWellFormed, spell, an_act, a_step, a_next, a_user}
use Rattle.cert_text.specs.Drafts.{Draft, MayStand, MayEnd, IsReadTo}

-- the role of its act, if it has one, is unknown
abbrev pub HasUnknownRole : List (List ℕ) → WrittenOrigin → Type 0
HasUnknownRole names (a_goal place) = ⊥
HasUnknownRole names (an_assign parent rule conjunct role target admin) = IsUnknown names role
HasUnknownRole names (a_weak parent rule role target admin) = IsUnknown names role

-- the line has a name that is that of no role
abbrev pub HasUnknown : List (List ℕ) → LineForm → Type 0
HasUnknown names (an_act act) = IsUnknown names act.role
HasUnknown names (a_step origin) = HasUnknownRole names origin
HasUnknown names (a_next origin) = HasUnknownRole names origin
HasUnknown names (a_user hits lacks) = Some_of (Some_of (IsUnknown names)) hits ⊎ Some_of (IsUnknown names) lacks
HasUnknown names line = ⊥

-- the line has a form, and stands in its place
pub record IsPlaced (draft : Draft) (line : List ℕ) (form : LineForm) : Type 0 where
  pub formed : IsWellFormed form
  pub spelled : spell form ≡ line
  pub place : MayStand draft form

-- behind what the draft says so far the line is at fault: it has no form or is out of place, and is no `end` of a whole one;
-- or a name of it is that of no role
abbrev pub IsLineFault : List (List ℕ) → Draft → List ℕ → ℕ → CertError → Type 0
IsLineFault names draft line number (BadLine at) =
    (at ≡ number) × ((form : LineForm) → ¬ IsPlaced draft line form) × (line ≡ codes "end" → ¬ MayEnd draft)
IsLineFault names draft line number (UnknownRole at) = (at ≡ number) × (form : LineForm) × IsPlaced draft line form × HasUnknown names form
IsLineFault names draft line number Unended = ⊥
IsLineFault names draft line number Memory = Unit {0}

-- the first line that is at fault is behind right lines
pub record IsFaultInside (names : List (List ℕ)) (bytes : List ℕ) (fault : CertError) : Type 0 where
  pub draft : Draft
  pub number : ℕ
  pub line : List ℕ
  pub later : List (List ℕ)
  pub part : List ℕ
  pub read : IsReadTo names bytes draft number (line ∷ later) part
  pub fault_is : IsLineFault names draft line number fault

-- the first line isn't `arbac certificate 1`
pub record IsFaultAhead (bytes : List ℕ) (at : ℕ) : Type 0 where
  pub line : List ℕ
  pub later : List (List ℕ)
  pub part : List ℕ
  pub text : split bytes ≡ (line ∷ later, part)
  pub other : ¬ (line ≡ codes "arbac certificate 1")
  pub number_is : at ≡ 1

-- bytes stand behind the line `end` of a whole certificate; they are the line after it
pub record IsFaultBehind (names : List (List ℕ)) (bytes : List ℕ) (at : ℕ) : Type 0 where
  pub draft : Draft
  pub number : ℕ
  pub later : List (List ℕ)
  pub part : List ℕ
  pub read : IsReadTo names bytes draft number (codes "end" ∷ later) part
  pub whole : MayEnd draft
  pub more : ¬ ((later ≡ []) × (part ≡ []))
  pub number_is : at ≡ number + 1

-- no whole line is at fault, and the last one is still missing
pub record HasNoEnd (names : List (List ℕ)) (bytes : List ℕ) : Type 0 where
  pub draft : Draft
  pub number : ℕ
  pub part : List ℕ
  pub read : IsReadTo names bytes draft number [] part

-- the text's first fault; a text without a whole line is unended
abbrev pub IsFirstFault : List (List ℕ) → List ℕ → CertError → Type 0
IsFirstFault names bytes (BadLine at) =
    IsFaultAhead bytes at ⊎ (IsFaultInside names bytes (BadLine at) ⊎ IsFaultBehind names bytes at)
IsFirstFault names bytes (UnknownRole at) = IsFaultInside names bytes (UnknownRole at)
IsFirstFault names bytes Unended = ((split bytes).0 ≡ []) ⊎ HasNoEnd names bytes
IsFirstFault names bytes Memory = ⊥

-- the error is the text's first fault, or want of memory
abbrev pub IsRefused : List (List ℕ) → List ℕ → CertError → Type 0
IsRefused names bytes (BadLine at) = IsFirstFault names bytes (BadLine at)
IsRefused names bytes (UnknownRole at) = IsFirstFault names bytes (UnknownRole at)
IsRefused names bytes Unended = IsFirstFault names bytes Unended
IsRefused names bytes Memory = Unit {0}

-- reading tells the fault, unless memory runs out
abbrev pub Tells : Result Cert CertError → CertError → Type 0
Tells (Ok cert) fault = ⊥
Tells (Err error) fault = (error ≡ fault) ⊎ (error ≡ Memory)
