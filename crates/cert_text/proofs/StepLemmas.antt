-- What one line does: from its form to the line, and from line to line.
use Rattle.std.proofs.Common.{ℕ, ◌≡◌, ◌+◌, List, [], ◌∷◌, ◌++◌, length, refl, arith, sym, ◌∙◌, ap, subst, Some, map}
use Rattle.std.proofs.Common.{false, eqb}
use Rattle.std.proofs.lemmas.Bool.{eq-eqb, false≢true}
use Rattle.std.specs.Prelude.{codes, OnOk, IfErr, Result, Ok, Err}
use Rattle.list_words.specs.Lists.{Each}
use Rattle.cond_text.specs.Cuts.{byte_of, cut}
use Rattle.text_lines.specs.Lines.{split}
use Rattle.text_lines.proofs.LineLemmas.{split_first}
use Rattle.cert_text.specs.declared.cert_error.CertError.{CertError}
use Rattle.cert_text.specs.declared.cert_error.CertError.TheVariants.{BadLine, UnknownRole, Unended, Memory}
use Rattle.cert_text.specs.declared.line.Line.{Line}
use Rattle.cert_text.specs.declared.line.Line.TheVariants as v
use Rattle.cert_text.specs.LineForms.{LineForm, IsWellFormed, spell}
use Rattle.cert_text.specs.LineForms.{a_reachable, an_unreachable, an_undecided, a_start, an_act, a_need, a_step, a_next, a_user}
use Rattle.cert_text.specs.Drafts.{Draft, MayStand, MayEnd, Adds, AddAll}
use Rattle.cert_text.specs.Faults.{IsLineFault}
use Rattle.cert_text.specs.Views.{Tells, IsLine}
use Rattle.cert_text.specs.Steps.{IsFormFault, TakesForm, Takes, AddsLine, IsReadUpTo}

-- texts that begin with two bytes are two
begin_apart : (s t : List ℕ) → s ≡ t → eqb (byte_of s) (byte_of t) ≡ false → ⊥
begin_apart s t e f = false≢true (sym f ∙ ap (λ (x : List ℕ). eqb (byte_of x) (byte_of t)) e ∙ eq-eqb (byte_of t) (byte_of t) refl)

-- no form is spelled `end`
pub no_end : (form : LineForm) → spell form ≡ codes "end" → ⊥
unfolding spell
no_end a_reachable e = begin_apart (spell a_reachable) (codes "end") e refl
no_end an_unreachable e = begin_apart (spell an_unreachable) (codes "end") e refl
no_end (an_undecided limit) e = begin_apart (spell (an_undecided limit)) (codes "end") e refl
no_end (a_start profile) e = begin_apart (spell (a_start profile)) (codes "end") e refl
no_end (an_act act) e = begin_apart (spell (an_act act)) (codes "end") e refl
no_end a_need e = begin_apart (spell a_need) (codes "end") e refl
no_end (a_step origin) e = begin_apart (spell (a_step origin)) (codes "end") e refl
no_end (a_next origin) e = begin_apart (spell (a_next origin)) (codes "end") e refl
no_end (a_user hits lacks) e = begin_apart (spell (a_user hits lacks)) (codes "end") e refl

-- a line's form does what its parts say
taken : (names : List (List ℕ)) (draft : Draft) (line : Line) (number : ℕ) (next : Draft) (r : Result (Unit {0}) CertError) (form : LineForm)
    → Takes names draft line number next r → Tells names line form → TakesForm names draft form number next r
taken names draft v.Reachable number next r form t e = subst (λ (f : LineForm). TakesForm names draft f number next r) (sym e) t
taken names draft v.Unreachable number next r form t e = subst (λ (f : LineForm). TakesForm names draft f number next r) (sym e) t
taken names draft (v.Undecided limit) number next r form t e = subst (λ (f : LineForm). TakesForm names draft f number next r) (sym e) t
taken names draft (v.Start profile) number next r form t e = subst (λ (f : LineForm). TakesForm names draft f number next r) (sym e) t
taken names draft (v.Act act) number next r form t e = subst (λ (f : LineForm). TakesForm names draft f number next r) (sym e.1) (t e.0 e.2)
taken names draft v.Need number next r form t e = subst (λ (f : LineForm). TakesForm names draft f number next r) (sym e) t
taken names draft (v.Step origin) number next r form t e = subst (λ (f : LineForm). TakesForm names draft f number next r) (sym e.1) (t e.0 e.2)
taken names draft (v.Next origin) number next r form t e = subst (λ (f : LineForm). TakesForm names draft f number next r) (sym e.1) (t e.0 e.2)
taken names draft (v.User user) number next r form t e = subst (λ (f : LineForm). TakesForm names draft f number next r) (sym e.2) (t e.0 e.1 e.3)

-- a form's fault is its line's
pub line_fault : (names : List (List ℕ)) (draft : Draft) (bytes : List ℕ) (line : Line) (number : ℕ) (error : CertError) → (l : IsLine names bytes line)
    → IsFormFault names draft l.form number error → IsLineFault names draft bytes number error
line_fault names draft bytes line number (BadLine at) l f =
    (f.0, (λ other p. f.1 (subst (MayStand draft) (l.only other p.formed p.spelled) p.place)), λ is. absurd (no_end l.form (l.spelled ∙ is)))
line_fault names draft bytes line number (UnknownRole at) l f = (f.0, l.form, record { formed = l.formed; spelled = l.spelled; place = f.1 }, f.2)
line_fault names draft bytes line number Unended l f = f
line_fault names draft bytes line number Memory l f = tt

-- what a line adds, and how it is at fault
pub line_adds : (names : List (List ℕ)) (draft : Draft) (bytes : List ℕ) (line : Line) (number : ℕ) (next : Draft) (r : Result (Unit {0}) CertError)
    → IsLine names bytes line → Takes names draft line number next r → OnOk r (AddsLine names draft bytes next)
line_adds names draft bytes line number next (Ok done) l t =
    record { form = l.form; formed = l.formed; spelled = l.spelled; adds = taken names draft line number next (Ok done) l.form t l.tells }
line_adds names draft bytes line number next (Err error) l t = tt

pub line_faults : (names : List (List ℕ)) (draft : Draft) (bytes : List ℕ) (line : Line) (number : ℕ) (next : Draft) (r : Result (Unit {0}) CertError)
    → IsLine names bytes line → Takes names draft line number next r → IfErr r (IsLineFault names draft bytes number)
line_faults names draft bytes line number next (Ok done) l t = tt
line_faults names draft bytes line number next (Err error) l t =
    line_fault names draft bytes line number error l (taken names draft line number next (Err error) l.form t l.tells)

-- a line without a form is at fault
pub formless : (names : List (List ℕ)) (draft : Draft) (bytes : List ℕ) (number : ℕ) → ((form : LineForm) → IsWellFormed form → spell form ≡ bytes → ⊥)
    → (bytes ≡ codes "end" → MayEnd draft → ⊥) → IsLineFault names draft bytes number (BadLine number)
formless names draft bytes number none end = (refl, (λ form p. none form p.formed p.spelled), end)

-- lines one by one

add_one_more : (names : List (List ℕ)) (draft mid next : Draft) (lines : List LineForm) (form : LineForm) → AddAll names draft lines mid
    → Adds names mid form next → AddAll names draft (lines ++ form ∷ []) next
add_one_more names draft mid next [] form all more = (next, subst (λ (d : Draft). Adds names d form next) all more, refl)
add_one_more names draft mid next (line ∷ lines) form all more = (all.0, all.1, add_one_more names all.0 mid next lines form all.2 more)

each_one_more : (lines : List LineForm) (form : LineForm) → Each IsWellFormed lines → IsWellFormed form → Each IsWellFormed (lines ++ form ∷ [])
each_one_more [] form each formed = (formed, tt)
each_one_more (line ∷ lines) form each formed = (each.0, each_one_more lines form each.1 formed)

spell_one_more : (lines : List LineForm) (form : LineForm) (left : List (List ℕ))
    → map spell (lines ++ form ∷ []) ++ left ≡ map spell lines ++ (spell form ∷ left)
spell_one_more [] form left = refl
spell_one_more (line ∷ lines) form left = ap (λ t. spell line ∷ t) (spell_one_more lines form left)

length_one_more : (lines : List LineForm) (form : LineForm) → length (lines ++ form ∷ []) ≡ length lines + 1
length_one_more [] form = refl
length_one_more (line ∷ lines) form = let l = length_one_more lines form in omega arith

-- with one right line more
pub read_more : (names : List (List ℕ)) (bytes rest line later : List ℕ) (draft next : Draft) (number : ℕ)
    → IsReadUpTo names bytes draft number rest → cut 10 rest ≡ Some (line, later) → AddsLine names draft line next
    → IsReadUpTo names bytes next (number + 1) later
read_more names bytes rest line later draft next number r c a = record {
  lines = r.lines ++ a.form ∷ [];
  formed = each_one_more r.lines a.form r.formed a.formed;
  text = r.text
      ∙ ap (λ (s : List (List ℕ) × List ℕ). (codes "arbac certificate 1" ∷ (map spell r.lines ++ s.0), s.1)) (split_first rest line later c)
      ∙ ap (λ (t : List ℕ). (codes "arbac certificate 1" ∷ (map spell r.lines ++ (t ∷ (split later).0)), (split later).1)) (sym a.spelled)
      ∙ ap (λ (t : List (List ℕ)). (codes "arbac certificate 1" ∷ t, (split later).1)) (sym (spell_one_more r.lines a.form (split later).0));
  added = add_one_more names _ draft next r.lines a.form r.added a.adds;
  number_is = longer number (length r.lines) (length (r.lines ++ a.form ∷ [])) r.number_is (length_one_more r.lines a.form);
}
  where
    longer : (number n m : ℕ) → number ≡ 2 + n → m ≡ n + 1 → number + 1 ≡ 2 + m
    longer number n m h k = omega arith
