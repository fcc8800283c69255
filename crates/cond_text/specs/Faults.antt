-- The first fault of a text that is no condition within the limits.
use Rattle.std.specs.Prelude.{ℕ, ◌≡◌, ◌≤◌, ◌+◌, ◌-◌, ◌⊎◌, List, [], ◌∷◌, ◌++◌}
use Rattle.arbac_policy.specs.Truth.{Term}
use Rattle.cond_text.specs.declared.word.Word.{Word}
use Rattle.cond_text.specs.declared.word.Word.TheVariants.{Any, Name, Not, And, Or, Open, Close, Stray}
use Rattle.cond_text.specs.declared.word.Placed.{Placed}
use Rattle.cond_text.specs.declared.cond_error.CondError.{CondError}
use Rattle.cond_text.specs.declared.cond_error.CondError.TheVariants.{Unexpected, UnknownRole, TooDeep, Memory}
use Rattle.cond_text.specs.declared.TheConstants.{MOST_TERMS, MOST_OPEN}
use Rattle.cond_text.specs.Grammar.{Stands, CanBegin}

-- one for the word that ends a term: each term has one "any" or one name
abbrev pub weight : Word → ℕ
weight Any = 1
weight (Name role) = 1
weight Not = 0
weight And = 0
weight Or = 0
weight Open = 0
weight Close = 0
weight Stray = 0

-- how many terms the words have
abbrev pub terms_in : List Word → ℕ
terms_in [] = 0
terms_in (w ∷ ws) = weight w + terms_in ws

-- how many parentheses are open behind the word, where so many were before it
abbrev pub open_behind : ℕ → Word → ℕ
open_behind nested Open = nested + 1
open_behind nested Close = nested - 1
open_behind nested Any = nested
open_behind nested (Name role) = nested
open_behind nested Not = nested
open_behind nested And = nested
open_behind nested Or = nested
open_behind nested Stray = nested

-- how many are open behind the words
abbrev pub open_after : ℕ → List Word → ℕ
open_after nested [] = nested
open_after nested (w ∷ ws) = open_after (open_behind nested w) ws

-- the words begin with a name
abbrev pub BeginsWithName : List Placed → Type 0
BeginsWithName [] = ⊥
BeginsWithName (x ∷ xs) = (role : ℕ) × (x.word ≡ Name role)

-- a term above the limit begins with the word, or a parenthesis above the limit is open;
-- a "not" begins a term where a name follows
abbrev pub IsTooDeep : List Word → Word → List Placed → Type 0
IsTooDeep before Any rest = MOST_TERMS ≤ terms_in before
IsTooDeep before (Name role) rest = MOST_TERMS ≤ terms_in before
IsTooDeep before Not rest = (MOST_TERMS ≤ terms_in before) × BeginsWithName rest
IsTooDeep before Open rest = MOST_OPEN ≤ open_after 0 before
IsTooDeep before And rest = ⊥
IsTooDeep before Or rest = ⊥
IsTooDeep before Close rest = ⊥
IsTooDeep before Stray rest = ⊥

-- the word is a name that is none of so many roles
abbrev pub IsNoRole : ℕ → Word → Type 0
IsNoRole count (Name role) = count ≤ role
IsNoRole count Any = ⊥
IsNoRole count Not = ⊥
IsNoRole count And = ⊥
IsNoRole count Or = ⊥
IsNoRole count Open = ⊥
IsNoRole count Close = ⊥
IsNoRole count Stray = ⊥

-- behind these words the word has the fault: it can't stand there; or it can, and passes a limit;
-- or it can, passes none, and is an unknown name
abbrev pub IsFaultAt : ℕ → List Word → Placed → List Placed → CondError → Type 0
IsFaultAt count before x rest (Unexpected place) = (place ≡ x.place) × (¬ CanBegin (before ++ (x.word ∷ [])))
IsFaultAt count before x rest (TooDeep place) =
    (place ≡ x.place) × CanBegin (before ++ (x.word ∷ [])) × IsTooDeep before x.word rest
IsFaultAt count before x rest (UnknownRole place) =
    (place ≡ x.place) × CanBegin (before ++ (x.word ∷ []))
    × (¬ IsTooDeep before x.word rest) × IsNoRole count x.word
IsFaultAt count before x rest Memory = ⊥

-- behind these words the word has no fault
pub record IsFine (count : ℕ) (before : List Word) (x : Placed) (rest : List Placed) : Type 0 where
  pub expected : CanBegin (before ++ (x.word ∷ []))
  pub shallow : ¬ IsTooDeep before x.word rest
  pub known : ¬ IsNoRole count x.word

-- behind these words no word has a fault
abbrev pub AreFine : ℕ → List Word → List Placed → Type 0
AreFine count before [] = Unit {0}
AreFine count before (x ∷ rest) = IsFine count before x rest × AreFine count (before ++ (x.word ∷ [])) rest

-- the first fault behind these words, in a text of so many bytes: the first word that has one,
-- or the text's end where the words are no condition
abbrev pub IsFirstFault : ℕ → ℕ → List Word → List Placed → CondError → Type 0
IsFirstFault count size before [] fault = (fault ≡ Unexpected size) × ((term : Term) → ¬ Stands before term)
IsFirstFault count size before (x ∷ rest) fault =
    IsFaultAt count before x rest fault
    ⊎ (IsFine count before x rest × IsFirstFault count size (before ++ (x.word ∷ [])) rest fault)

-- never more than the limit are open at once, where so many are open before the words
abbrev pub IsShallow : ℕ → List Word → Type 0
IsShallow nested [] = Unit {0}
IsShallow nested (w ∷ ws) = (open_behind nested w ≤ MOST_OPEN) × IsShallow (open_behind nested w) ws

-- each name is one of so many roles
abbrev pub AreKnown : ℕ → List Word → Type 0
AreKnown count [] = Unit {0}
AreKnown count (w ∷ ws) = (¬ IsNoRole count w) × AreKnown count ws
