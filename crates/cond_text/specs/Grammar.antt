-- The grammar of conditions: its phrases, the words that spell them, and the terms that they stand for.
--
--   condition   = conjunction, or condition "or" conjunction
--   conjunction = operand, or conjunction "and" operand
--   operand     = "any", a name, "not" and a name, or "(" condition ")"
use Rattle.std.specs.Prelude.{ℕ, ◌≡◌, ◌+◌, Bool, true, false, List, [], ◌∷◌, ◌++◌}
use Rattle.arbac_policy.specs.Truth.{Term, any, has, lacks, both, either}
use Rattle.cond_text.specs.declared.level.Level.{Level}
use Rattle.cond_text.specs.declared.level.Level.TheVariants.{Operand, Conjunction, Condition}
use Rattle.cond_text.specs.declared.word.Word.{Word}
use Rattle.cond_text.specs.declared.word.Word.TheVariants.{Any, Name, Not, And, Or, Open, Close}

-- the phrases of the grammar
pub data Phrase : Type 0 where
  an_any : Phrase
  a_name : ℕ → Phrase
  a_not : ℕ → Phrase
  enclosed : Phrase → Phrase
  an_and : Phrase → Phrase → Phrase
  an_or : Phrase → Phrase → Phrase

-- an "and" stands in a conjunction and in a condition
abbrev pub takes_and : Level → Bool
takes_and Operand = false
takes_and Conjunction = true
takes_and Condition = true

-- an "or" stands in a condition alone
abbrev pub takes_or : Level → Bool
takes_or Operand = false
takes_or Conjunction = false
takes_or Condition = true

-- the phrase is an operand, a conjunction or a condition; "and" and "or" group to the left
abbrev pub IsAt : Level → Phrase → Type 0
IsAt level an_any = Unit {0}
IsAt level (a_name role) = Unit {0}
IsAt level (a_not role) = Unit {0}
IsAt level (enclosed p) = IsAt Condition p
IsAt level (an_and p q) = (takes_and level ≡ true) × IsAt Conjunction p × IsAt Operand q
IsAt level (an_or p q) = (takes_or level ≡ true) × IsAt Condition p × IsAt Conjunction q

-- the words of the phrase, and behind them the rest
abbrev pub spell : Phrase → List Word → List Word
spell an_any rest = Any ∷ rest
spell (a_name role) rest = Name role ∷ rest
spell (a_not role) rest = Not ∷ Name role ∷ rest
spell (enclosed p) rest = Open ∷ spell p (Close ∷ rest)
spell (an_and p q) rest = spell p (And ∷ spell q rest)
spell (an_or p q) rest = spell p (Or ∷ spell q rest)

-- the term that the phrase stands for
abbrev pub value : Phrase → Term
value an_any = any
value (a_name role) = has role
value (a_not role) = lacks role
value (enclosed p) = value p
value (an_and p q) = both (value p) (value q)
value (an_or p q) = either (value p) (value q)

-- how many terms of the format a condition has: each "any", name and "not" with a name is one
abbrev pub term_count : Term → ℕ
term_count any = 1
term_count (has role) = 1
term_count (lacks role) = 1
term_count (both t u) = term_count t + term_count u
term_count (either t u) = term_count t + term_count u

-- the words spell a condition that stands for the term
pub record Stands (words : List Word) (term : Term) : Type 0 where
  pub phrase : Phrase
  pub whole : IsAt Condition phrase
  pub spelled : spell phrase [] ≡ words
  pub valued : value phrase ≡ term

-- a condition begins with the words
pub record CanBegin (words : List Word) : Type 0 where
  pub more : List Word
  pub term : Term
  pub stands : Stands (words ++ more) term
