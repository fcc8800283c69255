-- A machine that reads the words of a condition from left to right. The grammar's laws are proved of it.
use Rattle.std.specs.Prelude.{List, [], ◌∷◌, Option, Some, None, option_and_then}
use Rattle.arbac_policy.specs.Truth.{Term, any, has, lacks, both, either}
use Rattle.cond_text.specs.declared.word.Word.{Word}
use Rattle.cond_text.specs.declared.word.Word.TheVariants.{Any, Name, Not, And, Or, Open, Close, Stray}

-- what was read since a parenthesis opened: before the last "or", and before the last "and" behind it
pub record Frame : Type 0 where
  pub ors : Option Term
  pub ands : Option Term

-- an operand is wanted, or the name behind a "not", or a conjunction was read;
-- the frames are those of the open parentheses, the innermost first
pub data State : Type 0 where
  wants_operand : List Frame → Frame → State
  wants_name : List Frame → Frame → State
  has_conjunction : List Frame → Option Term → Term → State

-- nothing stands before the operand
abbrev pub no_frame : Frame
no_frame = record { ors = None; ands = None }

-- the term behind an "and", with what stands before it
abbrev pub and_with : Option Term → Term → Term
and_with None u = u
and_with (Some t) u = both t u

-- the term behind an "or", with what stands before it
abbrev pub or_with : Option Term → Term → Term
or_with None u = u
or_with (Some t) u = either t u

-- behind an operand
abbrev pub operand_read : List Frame → Frame → Term → State
operand_read fs f t = has_conjunction fs f.ors (and_with f.ands t)

-- a word where an operand is wanted
abbrev pub step_operand : List Frame → Frame → Word → Option State
step_operand fs f Any = Some (operand_read fs f any)
step_operand fs f (Name role) = Some (operand_read fs f (has role))
step_operand fs f Not = Some (wants_name fs f)
step_operand fs f Open = Some (wants_operand (f ∷ fs) no_frame)
step_operand fs f And = None
step_operand fs f Or = None
step_operand fs f Close = None
step_operand fs f Stray = None

-- a word where a name is wanted
abbrev pub step_name : List Frame → Frame → Word → Option State
step_name fs f (Name role) = Some (operand_read fs f (lacks role))
step_name fs f Any = None
step_name fs f Not = None
step_name fs f Open = None
step_name fs f And = None
step_name fs f Or = None
step_name fs f Close = None
step_name fs f Stray = None

-- a parenthesis closes round the term
abbrev pub closing : List Frame → Term → Option State
closing [] t = None
closing (f ∷ fs) t = Some (operand_read fs f t)

-- a word behind an operand
abbrev pub step_conjunction : List Frame → Option Term → Term → Word → Option State
step_conjunction fs ors t And = Some (wants_operand fs (record { ors = ors; ands = Some t }))
step_conjunction fs ors t Or = Some (wants_operand fs (record { ors = Some (or_with ors t); ands = None }))
step_conjunction fs ors t Close = closing fs (or_with ors t)
step_conjunction fs ors t Any = None
step_conjunction fs ors t (Name role) = None
step_conjunction fs ors t Not = None
step_conjunction fs ors t Open = None
step_conjunction fs ors t Stray = None

-- the state behind the word, and none where the word can't stand there
abbrev pub step : State → Word → Option State
step (wants_operand fs f) w = step_operand fs f w
step (wants_name fs f) w = step_name fs f w
step (has_conjunction fs ors t) w = step_conjunction fs ors t w

-- the words, one after another
abbrev pub go : State → List Word → Option State
go s [] = Some s
go s (w ∷ ws) = option_and_then (λ next. go next ws) (step s w)

-- the term where the text may end
abbrev pub finish : State → Option Term
finish (wants_operand fs f) = None
finish (wants_name fs f) = None
finish (has_conjunction [] ors t) = Some (or_with ors t)
finish (has_conjunction (f ∷ fs) ors t) = None

-- nothing is read yet
abbrev pub start : State
start = wants_operand [] no_frame

-- the term that the words stand for, if they do
abbrev pub accept : List Word → Option Term
accept ws = option_and_then finish (go start ws)
