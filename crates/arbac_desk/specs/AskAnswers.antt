-- What `ask` answers, by the bytes of its file.
use Rattle.std.specs.Prelude.{ℕ, ◌≡◌, ◌≢◌, ◌≤◌, ◌⊎◌, List, length}
use Rattle.question_text.specs.declared.question.Question.{Question}
use Rattle.question_text.specs.declared.question_error.QuestionError.{QuestionError}
use Rattle.question_text.specs.declared.question_error.QuestionError.TheVariants as questions
use Rattle.cert_check.specs.Judgements.{asked_by}
use Rattle.question_answer.specs.declared.certificates.Kind.{Kind}
use Rattle.question_answer.specs.Answers.{IsAnswerText}
use Rattle.desk_ports.specs.declared.askers.Asked as code
use Rattle.desk_ports.specs.declared.askers.Asked.TheVariants as told
use Rattle.desk_ports.specs.Shelves.{ShelfView}
use Rattle.desk_ports.specs.Sinks.{SinkView}
use Rattle.desk_texts.specs.Faults.{question_fault}
use Rattle.arbac_desk.specs.declared.TheConstants.{MOST_QUESTION_BYTES}
use Rattle.arbac_desk.specs.Statuses.{MALFORMED, status_of}
use Rattle.arbac_desk.specs.Answers.{IsFileReply, IsFileAnswer}
use Rattle.arbac_desk.specs.Questions.{IsQuestion, IsNoQuestion, IsMalformedQuestion, Shows}

-- the text is that of the certificate of the document's question, searched with this limit; the certificate says this, and shows it
pub record IsAnswerFor (limit : ℕ) (document : List ℕ) (kind : Kind) (text : List ℕ) : Type 0 where
  pub question : Question
  pub is_question : IsQuestion document question
  pub answer : IsAnswerText (asked_by question) limit kind text
  pub shows : Shows (asked_by question) answer.cert

-- the answer where a document has this fault: its text, or want of memory
abbrev pub IsFaultAnswer : QuestionError → code.Asked → Type 0
IsFaultAnswer fault (told.Answer text) = ⊥
IsFaultAnswer fault (told.Malformed text) = (fault ≢ questions.Memory) × (text.items ≡ question_fault fault)
IsFaultAnswer fault told.Memory = Unit {0}

-- the answer is such a text; or that of the first fault, where the document is no question with a goal
abbrev pub IsAskedText : ℕ → List ℕ → code.Asked → Type 0
IsAskedText limit document (told.Answer text) = (kind : Kind) × IsAnswerFor limit document kind text.items
IsAskedText limit document (told.Malformed text) = (fault : QuestionError) × IsNoQuestion document fault × (text.items ≡ question_fault fault)
IsAskedText limit document told.Memory = Unit {0}

-- the bytes, few enough, are a question with a goal, and this is the text of its certificate
pub record IsAnswered (limit : ℕ) (bytes : List ℕ) (status : ℕ) (text : List ℕ) : Type 0 where
  pub few : length bytes ≤ MOST_QUESTION_BYTES
  pub kind : Kind
  pub status_is : status ≡ status_of kind
  pub answer : IsAnswerFor limit bytes kind text

-- the status and the text are those to these bytes of the file
abbrev pub IsReplyToDocument : ℕ → List ℕ → List ℕ → ℕ → List ℕ → Type 0
IsReplyToDocument limit name bytes status text =
    IsAnswered limit bytes status text ⊎ ((status ≡ MALFORMED) × IsMalformedQuestion name bytes text)

-- what is to be written, and with which status
abbrev pub IsAskReply : ℕ → List ℕ → ShelfView → ShelfView → ℕ → List ℕ → Type 0
IsAskReply limit name = IsFileReply (IsReplyToDocument limit name) name

-- the answer to `ask QUESTION`: one file is fetched, and one text is written
abbrev pub IsAskAnswer : List ℕ → ℕ → ShelfView → ShelfView → SinkView → SinkView → ℕ → Type 0
IsAskAnswer name limit = IsFileAnswer (IsReplyToDocument limit name) name
