-- What the machine takes is the beginning of a condition, and what it refuses isn't.
use Rattle.std.proofs.Common.{◌≡◌, ◌∙◌, ap, sym, refl, arith, List, [], ◌∷◌, ◌++◌, Option, Some, None}
use Rattle.std.specs.Prelude.{option_and_then}
use Rattle.cond_text.specs.declared.word.Word.{Word}
use Rattle.cond_text.specs.declared.word.Word.TheVariants.{Any, Name, Not, And, Or, Open, Close, Stray}
use Rattle.arbac_policy.specs.Truth.{Term, any, has, lacks}
use Rattle.cond_text.specs.Grammar.{CanBegin}
use Rattle.cond_text.specs.Machine.{Frame, State, wants_operand, wants_name, has_conjunction, no_frame, and_with, or_with, operand_read, step, go, finish}
use Rattle.cond_text.specs.Machine.{start}
use Rattle.cond_text.specs.Faults.{open_behind}
use Rattle.cond_text.specs.Judge.{open_in}
use Rattle.cond_text.proofs.CompleteLemmas.{accepts}
use Rattle.cond_text.proofs.SoundLemmas.{accepted}

-- some words end what was begun: an "any" or a name, and a ")" for each open parenthesis
record Ends (s : State) : Type 0 where
  more : List Word
  term : Term
  ends : option_and_then finish (go s more) ≡ Some term

have_ends : (fs : List Frame) (ors : Option Term) (t : Term) → Ends (has_conjunction fs ors t)
have_ends [] ors t = record { more = []; term = or_with ors t; ends = refl }
have_ends (f ∷ fs) ors t = let e = have_ends fs f.ors (and_with f.ands (or_with ors t)) in record { more = Close ∷ e.more; term = e.term; ends = e.ends }

any_ends : (s : State) → Ends s
any_ends (wants_operand fs f) = let e = have_ends fs f.ors (and_with f.ands any) in record { more = Any ∷ e.more; term = e.term; ends = e.ends }
any_ends (wants_name fs f) = let e = have_ends fs f.ors (and_with f.ands (lacks 0)) in record { more = Name 0 ∷ e.more; term = e.term; ends = e.ends }
any_ends (has_conjunction fs ors t) = have_ends fs ors t

go_append_at : (o : Option State) (a b : List Word) → ((n : State) → go n (a ++ b) ≡ option_and_then (λ m. go m b) (go n a))
    → option_and_then (λ n. go n (a ++ b)) o ≡ option_and_then (λ n. go n b) (option_and_then (λ n. go n a) o)
go_append_at None a b h = refl
go_append_at (Some n) a b h = h n

pub go_append : (s : State) (a b : List Word) → go s (a ++ b) ≡ option_and_then (λ n. go n b) (go s a)
go_append s [] b = refl
go_append s (w ∷ a) b = go_append_at (step s w) a b (λ n. go_append n a b)

pub go_one_more : (s : State) (before : List Word) (w : Word) → go start before ≡ Some s → go start (before ++ (w ∷ [])) ≡ step s w
go_one_more s before w e = go_append start before (w ∷ []) ∙ ap (option_and_then (λ n. go n (w ∷ []))) e ∙ same_step (step s w)
  where
    same_step : (o : Option State) → option_and_then (λ n. go n []) o ≡ o
    same_step None = refl
    same_step (Some n) = refl

-- what the machine takes is the beginning of a condition
pub can_begin : (s : State) (ws : List Word) → go start ws ≡ Some s → CanBegin ws
can_begin s ws e =
    let n = any_ends s in
    record {
      more = n.more;
      term = n.term;
      stands = accepted (ws ++ n.more) n.term (ap (option_and_then finish) (go_append start ws n.more ∙ ap (option_and_then (λ m. go m n.more)) e)
          ∙ n.ends);
    }

-- what it refuses isn't
pub cannot_begin : (ws : List Word) → go start ws ≡ None → CanBegin ws → ⊥
cannot_begin ws e h =
    let a = accepts (ws ++ h.more) h.term h.stands in
    let b = ap (option_and_then finish) (go_append start ws h.more ∙ ap (option_and_then (λ m. go m h.more)) e) in
    let c : None ≡ Some h.term = sym b ∙ a in
    cc

-- the state knows how many parentheses are open
pub open_step : (s next : State) (w : Word) → step s w ≡ Some next → open_in next ≡ open_behind (open_in s) w
open_step (wants_operand fs f) next Any e = let h : operand_read fs f any ≡ next = cc in sym (ap open_in h)
open_step (wants_operand fs f) next (Name role) e = let h : operand_read fs f (has role) ≡ next = cc in sym (ap open_in h)
open_step (wants_operand fs f) next Not e = let h : wants_name fs f ≡ next = cc in sym (ap open_in h)
open_step (wants_operand fs f) next Open e = let h : wants_operand (f ∷ fs) no_frame ≡ next = cc in sym (ap open_in h) ∙ omega arith
open_step (wants_operand fs f) next And e = absurd (cc)
open_step (wants_operand fs f) next Or e = absurd (cc)
open_step (wants_operand fs f) next Close e = absurd (cc)
open_step (wants_operand fs f) next Stray e = absurd (cc)
open_step (wants_name fs f) next (Name role) e = let h : operand_read fs f (lacks role) ≡ next = cc in sym (ap open_in h)
open_step (wants_name fs f) next Any e = absurd (cc)
open_step (wants_name fs f) next Not e = absurd (cc)
open_step (wants_name fs f) next Open e = absurd (cc)
open_step (wants_name fs f) next And e = absurd (cc)
open_step (wants_name fs f) next Or e = absurd (cc)
open_step (wants_name fs f) next Close e = absurd (cc)
open_step (wants_name fs f) next Stray e = absurd (cc)
open_step (has_conjunction fs ors t) next And e = let h : wants_operand fs (record { ors = ors; ands = Some t }) ≡ next = cc in sym (ap open_in h)
open_step (has_conjunction fs ors t) next Or e =
    let h : wants_operand fs (record { ors = Some (or_with ors t); ands = None }) ≡ next = cc in sym (ap open_in h)
open_step (has_conjunction [] ors t) next Close e = absurd (cc)
open_step (has_conjunction (f ∷ fs) ors t) next Close e = let h : operand_read fs f (or_with ors t) ≡ next = cc in sym (ap open_in h) ∙ omega arith
open_step (has_conjunction fs ors t) next Any e = absurd (cc)
open_step (has_conjunction fs ors t) next (Name role) e = absurd (cc)
open_step (has_conjunction fs ors t) next Not e = absurd (cc)
open_step (has_conjunction fs ors t) next Open e = absurd (cc)
open_step (has_conjunction fs ors t) next Stray e = absurd (cc)
