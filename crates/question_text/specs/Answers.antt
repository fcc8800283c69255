-- How a call's result answers an outcome.
use Rattle.std.specs.Prelude.{◌≡◌, ◌⊎◌, Result, Ok, Err, Option, Some, None, string_bytes}
use Rattle.question_text.specs.declared.question_error.QuestionError.{QuestionError}
use Rattle.question_text.specs.declared.question_error.QuestionError.TheVariants.{NotToml, Missing, WrongKind, UnknownRole, Order, Cond, MixedRole, TooMany}
use Rattle.question_text.specs.declared.question_error.QuestionError.TheVariants.{TooWide, UnknownKey, Memory}
use Rattle.question_text.specs.declared.question.Question.{Question}
use Rattle.question_text.specs.Outcomes.{Fault, not_toml, missing, wrong_kind, unknown_role, no_order, no_cond, mixed_role, too_many, too_wide, unknown_key}
use Rattle.question_text.specs.Outcomes.{Outcome}
use Rattle.question_text.specs.Values.{QuestionValue, plain_of}

-- the fault that an error tells; want of memory is none
abbrev pub fault_of : QuestionError → Option Fault
fault_of NotToml = Some not_toml
fault_of (Missing key) = Some (missing (string_bytes key))
fault_of (WrongKind key) = Some (wrong_kind (string_bytes key))
fault_of (UnknownRole key) = Some (unknown_role (string_bytes key))
fault_of (Order error) = Some (no_order error)
fault_of (Cond key error) = Some (no_cond (string_bytes key) error)
fault_of (MixedRole key) = Some (mixed_role (string_bytes key))
fault_of (TooMany key count) = Some (too_many (string_bytes key) count)
fault_of (TooWide key count) = Some (too_wide (string_bytes key) count)
fault_of (UnknownKey key) = Some (unknown_key (string_bytes key))
fault_of Memory = None

-- the outcome may be the fault, if one is told
abbrev pub IsToldBy : {A : Type 0} → Outcome A → Option Fault → Type 0
IsToldBy outcome None = Unit {0}
IsToldBy outcome (Some fault) = outcome (Err fault)

-- the outcome may be the result's value, as it is seen, or its fault; want of memory tells nothing
abbrev pub Answers : {A B : Type 0} → (A → B) → Outcome B → Result A QuestionError → Type 0
Answers view outcome (Ok value) = outcome (Ok (view value))
Answers view outcome (Err error) = IsToldBy outcome (fault_of error)

-- the question that was read has these parts, unless memory ran out
abbrev pub Reads : Result Question QuestionError → QuestionValue → Type 0
Reads (Ok question) value = plain_of question ≡ value
Reads (Err error) value = error ≡ Memory

-- reading tells the fault, unless memory runs out
abbrev pub Tells : Result Question QuestionError → Fault → Type 0
Tells (Ok question) fault = ⊥
Tells (Err error) fault = (fault_of error ≡ Some fault) ⊎ (error ≡ Memory)
