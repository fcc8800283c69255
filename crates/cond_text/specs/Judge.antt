-- The machine with its limits and faults: what the private functions compute.
use Rattle.std.specs.Prelude.{ℕ, ◌+◌, Bool, true, false, cond, ◌&&◌, nat_le, List, [], ◌∷◌, length, Option, Some, None, Result, Ok, Err}
use Rattle.arbac_policy.specs.Truth.{Term}
use Rattle.cond_text.specs.declared.word.Word.{Word}
use Rattle.cond_text.specs.declared.word.Word.TheVariants.{Any, Name, Not, And, Or, Open, Close, Stray}
use Rattle.cond_text.specs.declared.word.Placed.{Placed}
use Rattle.cond_text.specs.declared.cond_error.CondError.{CondError}
use Rattle.cond_text.specs.declared.cond_error.CondError.TheVariants.{Unexpected, UnknownRole, TooDeep}
use Rattle.cond_text.specs.declared.TheConstants.{MOST_TERMS, MOST_OPEN}
use Rattle.cond_text.specs.Machine.{State, wants_operand, wants_name, has_conjunction, step, finish}
use Rattle.cond_text.specs.Faults.{weight}

infixl 10 ◌>>=◌
-- the first one's fault, or what the second comes to
abbrev pub ◌>>=◌ : {A B : Type 0} → Result A CondError → (A → Result B CondError) → Result B CondError
(Ok x) >>= f = f x
(Err e) >>= f = Err e

-- how many parentheses are open
abbrev pub open_in : State → ℕ
open_in (wants_operand fs f) = length fs
open_in (wants_name fs f) = length fs
open_in (has_conjunction fs ors t) = length fs

-- the word is a name
abbrev pub is_name : Word → Bool
is_name (Name role) = true
is_name Any = false
is_name Not = false
is_name And = false
is_name Or = false
is_name Open = false
is_name Close = false
is_name Stray = false

-- the words begin with a name
abbrev pub begins_with_name : List Placed → Bool
begins_with_name [] = false
begins_with_name (x ∷ xs) = is_name x.word

-- the limit or the number that a word breaks which may stand there
abbrev pub limit : ℕ → ℕ → ℕ → ℕ → Bool → Word → Option CondError
limit count terms nested place ahead Any = cond (nat_le MOST_TERMS terms) (Some (TooDeep place)) None
limit count terms nested place ahead (Name role) =
    cond (nat_le MOST_TERMS terms) (Some (TooDeep place)) (cond (nat_le count role) (Some (UnknownRole place)) None)
limit count terms nested place ahead Not = cond (nat_le MOST_TERMS terms && ahead) (Some (TooDeep place)) None
limit count terms nested place ahead Open = cond (nat_le MOST_OPEN nested) (Some (TooDeep place)) None
limit count terms nested place ahead And = None
limit count terms nested place ahead Or = None
limit count terms nested place ahead Close = None
limit count terms nested place ahead Stray = None

-- the state, or this fault where there is none
abbrev pub or_fault : Option State → CondError → Result State CondError
or_fault None fault = Err fault
or_fault (Some s) fault = Ok s

-- the fault, or this state where there is none
abbrev pub unless : Option CondError → State → Result State CondError
unless None s = Ok s
unless (Some fault) s = Err fault

-- the state behind the word, or its fault
abbrev pub advance : ℕ → State → ℕ → ℕ → Bool → Word → Result State CondError
advance count s terms place ahead w =
    or_fault (step s w) (Unexpected place) >>= λ next. unless (limit count terms (open_in s) place ahead w) next

-- the term, or an unexpected end where there is none
abbrev pub ending : ℕ → Option Term → Result Term CondError
ending size None = Err (Unexpected size)
ending size (Some t) = Ok t

-- the term of the words, or the first fault
abbrev pub judge : ℕ → ℕ → State → ℕ → List Placed → Result Term CondError
judge count size s terms [] = ending size (finish s)
judge count size s terms (x ∷ xs) =
    advance count s terms x.place (begins_with_name xs) x.word >>= λ next. judge count size next (terms + weight x.word) xs
