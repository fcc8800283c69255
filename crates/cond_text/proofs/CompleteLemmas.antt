-- Whatever the grammar spells, the machine reads as its term; so words stand for one term at most.
use Rattle.std.proofs.Common.{◌≡◌, ◌∙◌, ap, sym, refl, List, [], ◌∷◌, Option, Some, None}
use Rattle.cond_text.specs.declared.word.Word.{Word}
use Rattle.cond_text.specs.declared.word.Word.TheVariants.{And, Or, Close}
use Rattle.std.specs.Prelude.{option_and_then}
use Rattle.std.proofs.lemmas.Bool.{false≢true}
use Rattle.cond_text.specs.declared.level.Level.TheVariants.{Operand, Conjunction, Condition}
use Rattle.arbac_policy.specs.Truth.{Term}
use Rattle.cond_text.specs.Grammar.{Phrase, an_any, a_name, a_not, enclosed, an_and, an_or, IsAt, spell, value, Stands}
use Rattle.cond_text.specs.Machine.{Frame, wants_operand, has_conjunction, no_frame, or_with, operand_read, go, finish, accept}

-- the machine reads the phrase as an operand, as a conjunction, as a condition
abbrev ReadsOperand : Phrase → Type 0
ReadsOperand p = (fs : List Frame) (f : Frame) (rest : List Word) → go (wants_operand fs f) (spell p rest) ≡ go (operand_read fs f (value p)) rest

abbrev ReadsConjunction : Phrase → Type 0
ReadsConjunction p =
    (fs : List Frame) (ors : Option Term) (rest : List Word) → go (wants_operand fs (record { ors = ors; ands = None })) (spell p rest) ≡ go
    (has_conjunction fs ors (value p)) rest

record ReadCondition (p : Phrase) (fs : List Frame) (rest : List Word) : Type 0 where
  ors : Option Term
  last : Term
  whole : or_with ors last ≡ value p
  read : go (wants_operand fs no_frame) (spell p rest) ≡ go (has_conjunction fs ors last) rest

record Reads (p : Phrase) : Type 0 where
  operand : IsAt Operand p → ReadsOperand p
  conjunction : IsAt Conjunction p → ReadsConjunction p
  whole : IsAt Condition p → (fs : List Frame) (rest : List Word) → ReadCondition p fs rest

from_operand : (p : Phrase) → ReadsOperand p → Reads p
from_operand p operand = record {
  operand = λ h. operand;
  conjunction = λ h fs ors rest. operand fs (record { ors = ors; ands = None }) rest;
  whole = λ h fs rest. record { ors = None; last = value p; whole = refl; read = operand fs no_frame rest };
}

from_conjunction : (p : Phrase) → (IsAt Operand p → ⊥) → (IsAt Conjunction p → ReadsConjunction p) → (IsAt Condition p → IsAt Conjunction p)
    → Reads p
from_conjunction p not_operand conjunction lower = record {
  operand = λ h. absurd (not_operand h);
  conjunction = conjunction;
  whole = λ h fs rest. record { ors = None; last = value p; whole = refl; read = conjunction (lower h) fs None rest };
}

enclosed_read : (p : Phrase) → ((fs : List Frame) (rest : List Word) → ReadCondition p fs rest) → ReadsOperand (enclosed p)
enclosed_read p whole fs f rest =
    let inner = whole (f ∷ fs) (Close ∷ rest) in
    inner.read ∙ ap (λ t. go (operand_read fs f t) rest) inner.whole

and_read : (p q : Phrase) → ReadsConjunction p → ReadsOperand q → ReadsConjunction (an_and p q)
and_read p q left right fs ors rest =
    left fs ors (And ∷ spell q rest) ∙ right fs (record { ors = ors; ands = Some (value p) }) rest

or_read : (p q : Phrase) → ((fs : List Frame) (rest : List Word) → ReadCondition p fs rest) → ReadsConjunction q
    → (fs : List Frame) (rest : List Word) → ReadCondition (an_or p q) fs rest
or_read p q left right fs rest =
    let first = left fs (Or ∷ spell q rest) in
    record {
      ors = Some (value p);
      last = value q;
      whole = refl;
      read = first.read ∙ ap (λ t. go (wants_operand fs (record { ors = Some t; ands = None })) (spell q rest)) first.whole
          ∙ right fs (Some (value p)) rest;
    }

reads : (p : Phrase) → Reads p
reads an_any = from_operand an_any (λ fs f rest. refl)
reads (a_name role) = from_operand (a_name role) (λ fs f rest. refl)
reads (a_not role) = from_operand (a_not role) (λ fs f rest. refl)
reads (enclosed p) = record {
  operand = λ h. enclosed_read p ((reads p).whole h);
  conjunction = λ h. (from_operand (enclosed p) (enclosed_read p ((reads p).whole h))).conjunction h;
  whole = λ h. (from_operand (enclosed p) (enclosed_read p ((reads p).whole h))).whole h;
}
reads (an_and p q) =
    from_conjunction (an_and p q) (λ h. absurd (false≢true h.0)) (λ h. and_read p q ((reads p).conjunction h.1) ((reads q).operand h.2))
    (λ h. (refl, h.1, h.2))
reads (an_or p q) = record {
  operand = λ h. absurd (false≢true h.0);
  conjunction = λ h. absurd (false≢true h.0);
  whole = λ h. or_read p q ((reads p).whole h.1) ((reads q).conjunction h.2);
}

-- what stands for a term is accepted, as that term
pub accepts : (ws : List Word) (t : Term) → Stands ws t → accept ws ≡ Some t
accepts ws t h =
    let e = (reads h.phrase).whole h.whole [] [] in
    ap accept (sym h.spelled) ∙ ap (option_and_then finish) e.read ∙ ap Some (e.whole ∙ h.valued)

-- words stand for one term at most
pub one_term : (ws : List Word) (t u : Term) → Stands ws t → Stands ws u → t ≡ u
one_term ws t u h k = let e : Some t ≡ Some u = sym (accepts ws t h) ∙ accepts ws u k in cc
