-- Question documents by their bytes, and what a certificate shows of a question.
use Rattle.std.specs.Prelude.{ℕ, ◌≡◌, ◌≢◌, ◌<◌, ◌≤◌, ◌⊎◌, true, List, length, Ok}
use Rattle.arbac_policy.specs.Goals.{IsReachable}
use Rattle.question_text.specs.declared.question.Question.{Question}
use Rattle.question_text.specs.declared.question_error.QuestionError.{QuestionError}
use Rattle.question_text.specs.declared.question_error.QuestionError.TheVariants as questions
use Rattle.question_text.specs.Values.{QuestionValue, plain_of}
use Rattle.question_text.specs.Documents.{document}
use Rattle.question_text.specs.Rules.{KeepsRules}
use Rattle.question_text.specs.Answers.{IsToldBy, fault_of}
use Rattle.cert_text.specs.Certificates.{Certificate, reachable, unreachable, undecided}
use Rattle.cert_check.specs.Asked.{Asked}
use Rattle.desk_texts.specs.Faults.{question_fault, too_long}
use Rattle.desk_texts.specs.Lines.{malformed_line}
use Rattle.arbac_desk.specs.declared.TheConstants.{MOST_QUESTION_BYTES}

-- the bytes are a question with a goal, and no other question
pub record IsQuestion (bytes : List ℕ) (question : Question) : Type 0 where
  pub stands : document true bytes (Ok (plain_of question))
  pub only : (value : QuestionValue) → document true bytes (Ok value) → plain_of question ≡ value
  pub keeps : KeepsRules (plain_of question)

-- the bytes are no question with a goal, and this is their first fault
pub record IsNoQuestion (bytes : List ℕ) (fault : QuestionError) : Type 0 where
  pub first : IsToldBy (document true bytes) (fault_of fault)
  pub told : fault ≢ questions.Memory
  pub none : (value : QuestionValue) → ¬ document true bytes (Ok value)

-- the bytes of QUESTION are too many, or no question with a goal; the line names the file and the fault
abbrev pub IsMalformedQuestion : List ℕ → List ℕ → List ℕ → Type 0
IsMalformedQuestion name bytes text =
    ((MOST_QUESTION_BYTES < length bytes) × (text ≡ malformed_line name too_long))
    ⊎ ((length bytes ≤ MOST_QUESTION_BYTES) × (fault : QuestionError) × IsNoQuestion bytes fault × (text ≡ malformed_line name (question_fault fault)))

-- the bytes, few enough, are a question with a goal
abbrev pub IsQuestionText : List ℕ → Type 0
IsQuestionText bytes = (length bytes ≤ MOST_QUESTION_BYTES) × (value : QuestionValue) × document true bytes (Ok value)

-- what a certificate that has its property shows of the question: its goal can be reached, or can't
abbrev pub Shows : Asked → Certificate → Type 0
Shows asked (reachable start acts) = IsReachable asked.rules asked.profiles asked.goal
Shows asked (unreachable needs) = ¬ IsReachable asked.rules asked.profiles asked.goal
Shows asked (undecided limit recorded next) = Unit {0}
