-- What the parts of a text say, put together.
use Rattle.std.proofs.Common.{ℕ, ◌≡◌, ◌+◌, inl, inr, List, [], ◌∷◌, ◌++◌, length, refl, arith, sym, ◌∙◌, ap, subst, Some, None}
use Rattle.std.proofs.Common.{suc, Result, Ok, Err, IfOk, IfErr, eqb, true, false}
use Rattle.std.proofs.lemmas.List.{length-append}
use Rattle.std.specs.Prelude.{codes, Option, IfSome, IfNone, option_and_then}
use Rattle.list_words.proofs.GetLemmas.{same_some}
use Rattle.std.proofs.lemmas.Bool.{eq-eqb, eqb-true}
use Rattle.cond_text.specs.Cuts.{cut}
use Rattle.cond_text.proofs.CutLemmas.{cut_joined}
use Rattle.text_lines.specs.Lines.{split}
use Rattle.text_lines.proofs.LineLemmas.{split_none, split_first, split_empty, nothing_left}
use Rattle.cert_text.specs.declared.cert.Cert.{Cert}
use Rattle.cert_text.specs.declared.cert_error.CertError.{CertError}
use Rattle.cert_text.specs.declared.cert_error.CertError.TheVariants.{BadLine, UnknownRole, Unended, Memory}
use Rattle.cert_text.specs.declared.line.Line.{Line}
use Rattle.cert_text.specs.declared.line.Line.TheVariants as v
use Rattle.cert_text.specs.declared.sections.Kind.{Kind}
use Rattle.cert_text.specs.declared.sections.Kind.TheVariants as kinds
use Rattle.cert_text.specs.Certificates.{Certificate, plain_of, IsCertificate, Reads}
use Rattle.cert_text.specs.LineForms.{LineForm, IsWellFormed, spell, a_reachable, an_unreachable, an_undecided}
use Rattle.cert_text.specs.Drafts.{Draft, nothing, plan, list, steps, Extends, MayStand, MayEnd, IsWhole, IsReadTo, StandsFor}
use Rattle.cert_text.specs.Faults.{IsLineFault, IsFirstFault, IsRefused, Tells}
use Rattle.cert_text.specs.Views.{Tells as TellsForm, IsLine}
use Rattle.cert_text.specs.Steps.{kind_in, AddsLine, IsReadUpTo, IsReadAs}
use Rattle.cert_text.proofs.StepLemmas.{no_end, read_more}
use Rattle.cert_text.proofs.KnownLemmas.{known_of}
use Rattle.cert_text.proofs.FirstLemmas.{one_cert, first_clash, one_fault}

-- what is left of the text, seen in another way
read_on : (names : List (List ℕ)) (bytes : List ℕ) (draft : Draft) (number : ℕ) (s t : List (List ℕ) × List ℕ) → s ≡ t
    → IsReadTo names bytes draft number s.0 s.1 → IsReadTo names bytes draft number t.0 t.1
read_on names bytes draft number s t e r = subst (λ (p : List (List ℕ) × List ℕ). IsReadTo names bytes draft number p.0 p.1) e r

-- the first line

pub read_first : (names : List (List ℕ)) (bytes line rest : List ℕ) → cut 10 bytes ≡ Some (line, rest) → line ≡ codes "arbac certificate 1"
    → IsReadUpTo names bytes nothing 2 rest
read_first names bytes line rest c is = record {
  lines = [];
  formed = tt;
  text = split_first bytes line rest c ∙ ap (λ (t : List ℕ). (t ∷ (split rest).0, (split rest).1)) is;
  added = refl;
  number_is = refl;
}

-- the first line has twenty bytes, its line feed among them
pub behind_first : (bytes line rest : List ℕ) → cut 10 bytes ≡ Some (line, rest) → line ≡ codes "arbac certificate 1" → length bytes ≡ length rest + 20
behind_first bytes line rest c is =
    ap length (cut_joined 10 bytes line rest c ∙ ap (λ (t : List ℕ). t ++ (10 ∷ rest)) is)
    ∙ length-append (codes "arbac certificate 1") (10 ∷ rest) ∙ longer (length rest)
  where
    longer : (n : ℕ) → 19 + suc n ≡ n + 20
    longer n = omega arith

pub no_line_first : (names : List (List ℕ)) (bytes : List ℕ) → cut 10 bytes ≡ None → IsFirstFault names bytes Unended
no_line_first names bytes c = inl (ap (λ (s : List (List ℕ) × List ℕ). s.0) (split_none bytes c))

pub ahead_first : (names : List (List ℕ)) (bytes line rest : List ℕ) → cut 10 bytes ≡ Some (line, rest)
    → (line ≡ codes "arbac certificate 1" → ⊥) → IsFirstFault names bytes (BadLine 1)
ahead_first names bytes line rest c other = inl (record {
  line = line;
  later = (split rest).0;
  part = (split rest).1;
  text = split_first bytes line rest c;
  other = other;
  number_is = refl;
})

-- a line that is at fault

pub stops : (names : List (List ℕ)) (bytes rest line later : List ℕ) (draft : Draft) (number : ℕ) (error : CertError)
    → IsReadUpTo names bytes draft number rest → cut 10 rest ≡ Some (line, later) → IsLineFault names draft line number error
    → IsRefused names bytes error
stops names bytes rest line later draft number (BadLine at) r c f = inr (inl (record {
  draft = draft;
  number = number;
  line = line;
  later = (split later).0;
  part = (split later).1;
  read = read_on names bytes draft number (split rest) (line ∷ (split later).0, (split later).1) (split_first rest line later c) r;
  fault_is = f;
}))
stops names bytes rest line later draft number (UnknownRole at) r c f = record {
  draft = draft;
  number = number;
  line = line;
  later = (split later).0;
  part = (split later).1;
  read = read_on names bytes draft number (split rest) (line ∷ (split later).0, (split later).1) (split_first rest line later c) r;
  fault_is = f;
}
stops names bytes rest line later draft number Unended r c f = absurd f
stops names bytes rest line later draft number Memory r c f = tt

-- no line is left
pub ends_early : (names : List (List ℕ)) (bytes rest : List ℕ) (draft : Draft) (number : ℕ) → IsReadUpTo names bytes draft number rest
    → cut 10 rest ≡ None → IsFirstFault names bytes Unended
ends_early names bytes rest draft number r c = inr (record {
  draft = draft;
  number = number;
  part = (split rest).1;
  read = subst (λ (l : List (List ℕ)). IsReadTo names bytes draft number l (split rest).1)
      (ap (λ (s : List (List ℕ) × List ℕ). s.0) (split_none rest c)) r;
})

-- the last line

pub at_end : (names : List (List ℕ)) (bytes rest line later : List ℕ) (draft : Draft) (number : ℕ) → IsReadUpTo names bytes draft number rest
    → cut 10 rest ≡ Some (line, later) → line ≡ codes "end" → IsReadTo names bytes draft number (codes "end" ∷ (split later).0) (split later).1
at_end names bytes rest line later draft number r c is =
    read_on names bytes draft number (split rest) (codes "end" ∷ (split later).0, (split later).1)
    (split_first rest line later c ∙ ap (λ (t : List ℕ). (t ∷ (split later).0, (split later).1)) is) r

pub ends_part : (names : List (List ℕ)) (bytes after : List ℕ) (draft : Draft) (number : ℕ)
    → IsReadTo names bytes draft number (codes "end" ∷ (split after).0) (split after).1 → (MayEnd draft → ⊥) → IsFirstFault names bytes (BadLine number)
ends_part names bytes after draft number r none = inr (inl (record {
  draft = draft;
  number = number;
  line = codes "end";
  later = (split after).0;
  part = (split after).1;
  read = r;
  fault_is = (refl, (λ form p. no_end form p.spelled), λ is. none);
}))

pub ends_behind : (names : List (List ℕ)) (bytes after : List ℕ) (draft : Draft) (number : ℕ) (cert : Certificate)
    → IsReadTo names bytes draft number (codes "end" ∷ (split after).0) (split after).1 → IsWhole draft cert → eqb (length after) 0 ≡ false
    → IsFirstFault names bytes (BadLine (number + 1))
ends_behind names bytes after draft number cert r whole more = inr (inr (record {
  draft = draft;
  number = number;
  later = (split after).0;
  part = (split after).1;
  read = r;
  whole = (cert, whole);
  more = λ h. let z : eqb (length after) 0 ≡ true = eq-eqb (length after) 0 (nothing_left after h.0 h.1) in absurd (cc);
  number_is = refl;
}))

pub ends_whole : (names : List (List ℕ)) (bytes after : List ℕ) (draft : Draft) (number : ℕ) (cert : Certificate)
    → IsReadTo names bytes draft number (codes "end" ∷ (split after).0) (split after).1 → IsWhole draft cert → eqb (length after) 0 ≡ true
    → StandsFor names bytes cert
ends_whole names bytes after draft number cert r whole none = record {
  draft = draft;
  number = number;
  read = read_on names bytes draft number (codes "end" ∷ (split after).0, (split after).1) (codes "end" ∷ [], [])
      (ap (λ (s : List (List ℕ) × List ℕ). (codes "end" ∷ s.0, s.1)) (split_empty after (eqb-true (length after) 0 none))) r;
  whole = whole;
}

-- the line of the kind

-- a line of a kind makes the first draft
begins : (names : List (List ℕ)) (line : List ℕ) (read : Line) (form : LineForm) (next : Draft) → (l : IsLine names line read) → l.form ≡ form
    → MayStand nothing form → Extends names nothing form next → AddsLine names nothing line next
begins names line read form next l is place extends = record {
  form = l.form;
  formed = l.formed;
  spelled = l.spelled;
  adds = record {
    place = subst (MayStand nothing) (sym is) place;
    extends = subst (λ (f : LineForm). Extends names nothing f next) (sym is) extends;
  };
}

-- the first draft of the kind
abbrev pub first_draft : Kind → Draft
first_draft kinds.Reachable = plan [] []
first_draft kinds.Unreachable = list []
first_draft (kinds.Undecided limit) = steps limit []

kind_adds : (names : List (List ℕ)) (line : List ℕ) (read : Line) (kind : Kind) → IsLine names line read → kind_in read ≡ Some kind
    → AddsLine names nothing line (first_draft kind)
kind_adds names line v.Reachable kind l e =
    subst (λ (k : Kind). AddsLine names nothing line (first_draft k)) (same_some kinds.Reachable kind e)
    (begins names line v.Reachable a_reachable (plan [] []) l l.tells tt refl)
kind_adds names line v.Unreachable kind l e =
    subst (λ (k : Kind). AddsLine names nothing line (first_draft k)) (same_some kinds.Unreachable kind e)
    (begins names line v.Unreachable an_unreachable (list []) l l.tells tt refl)
kind_adds names line (v.Undecided limit) kind l e =
    subst (λ (k : Kind). AddsLine names nothing line (first_draft k)) (same_some (kinds.Undecided limit) kind e)
    (begins names line (v.Undecided limit) (an_undecided limit) (steps limit []) l l.tells tt refl)
kind_adds names line read kind l e = absurd (cc)

pub read_kinds : (names : List (List ℕ)) (bytes text line rest : List ℕ) (read : Option Line) (kind : Kind) → cut 10 text ≡ Some (line, rest)
    → IfSome read (IsLine names line) → option_and_then kind_in read ≡ Some kind → IsReadUpTo names bytes nothing 2 text
    → IsReadUpTo names bytes (first_draft kind) 3 rest
read_kinds names bytes text line rest (Some read) kind c l e r =
    read_more names bytes text line rest nothing (first_draft kind) 2 r c (kind_adds names line read kind l e)
read_kinds names bytes text line rest None kind c l e r = absurd (cc)

-- no other form stands ahead of all
stands_nowhere : (names : List (List ℕ)) (read : Line) (form : LineForm) → TellsForm names read form → kind_in read ≡ None → MayStand nothing form → ⊥
stands_nowhere names v.Reachable form t e p = absurd (cc)
stands_nowhere names v.Unreachable form t e p = absurd (cc)
stands_nowhere names (v.Undecided limit) form t e p = absurd (cc)
stands_nowhere names (v.Start profile) form t e p = subst (MayStand nothing) t p
stands_nowhere names (v.Act act) form t e p = subst (MayStand nothing) t.1 p
stands_nowhere names v.Need form t e p = subst (MayStand nothing) t p
stands_nowhere names (v.Step origin) form t e p = subst (MayStand nothing) t.1 p
stands_nowhere names (v.Next origin) form t e p = subst (MayStand nothing) t.1 p
stands_nowhere names (v.User user) form t e p = subst (MayStand nothing) t.2 p

pub no_kind : (names : List (List ℕ)) (bytes text line rest : List ℕ) (read : Option Line) → cut 10 text ≡ Some (line, rest)
    → IfSome read (IsLine names line) → IfNone read ((form : LineForm) → IsWellFormed form → spell form ≡ line → ⊥)
    → option_and_then kind_in read ≡ None → IsReadUpTo names bytes nothing 2 text → IsFirstFault names bytes (BadLine 2)
no_kind names bytes text line rest (Some read) c l n e r =
    stops names bytes text line rest nothing 2 (BadLine 2) r c
    (refl, (λ form p. stands_nowhere names read l.form l.tells e (subst (MayStand nothing) (l.only form p.formed p.spelled) p.place)), λ is h. h.1)
no_kind names bytes text line rest None c l n e r =
    stops names bytes text line rest nothing 2 (BadLine 2) r c (refl, (λ form p. n form p.formed p.spelled), λ is h. h.1)

-- all clauses of what was read

pub found_of : (names : List (List ℕ)) (bytes : List ℕ) (r : Result Cert CertError) → IsReadAs names bytes r
    → IfOk r (λ cert. StandsFor names bytes (plain_of cert))
found_of names bytes (Ok cert) h = h
found_of names bytes (Err error) h = tt

pub first_of : (names : List (List ℕ)) (bytes : List ℕ) (r : Result Cert CertError) → IsReadAs names bytes r → IfErr r (IsRefused names bytes)
first_of names bytes (Ok cert) h = tt
first_of names bytes (Err error) h = h

pub written_of : (names : List (List ℕ)) (bytes : List ℕ) (r : Result Cert CertError) → IsReadAs names bytes r
    → IfOk r (λ cert. IsCertificate (length names) (plain_of cert))
written_of names bytes (Ok cert) h = known_of names bytes (plain_of cert) h
written_of names bytes (Err error) h = tt

pub only_of : (names : List (List ℕ)) (bytes : List ℕ) (r : Result Cert CertError) → IsReadAs names bytes r
    → (cert : Certificate) → StandsFor names bytes cert → Reads r cert
only_of names bytes (Ok found) h cert s = one_cert names bytes (plain_of found) cert h s
only_of names bytes (Err Memory) h cert s = refl
only_of names bytes (Err (BadLine at)) h cert s = absurd (first_clash names bytes cert (BadLine at) s h)
only_of names bytes (Err (UnknownRole at)) h cert s = absurd (first_clash names bytes cert (UnknownRole at) s h)
only_of names bytes (Err Unended) h cert s = absurd (first_clash names bytes cert Unended s h)

pub told_of : (names : List (List ℕ)) (bytes : List ℕ) (r : Result Cert CertError) → IsReadAs names bytes r
    → (fault : CertError) → IsFirstFault names bytes fault → Tells r fault
told_of names bytes (Ok found) h fault f = first_clash names bytes (plain_of found) fault h f
told_of names bytes (Err Memory) h fault f = inr refl
told_of names bytes (Err (BadLine at)) h fault f = inl (one_fault names bytes (BadLine at) fault h f)
told_of names bytes (Err (UnknownRole at)) h fault f = inl (one_fault names bytes (UnknownRole at) fault h f)
told_of names bytes (Err Unended) h fault f = inl (one_fault names bytes Unended fault h f)
