-- What `check` answers, by the bytes of its two files.
use Rattle.std.specs.Prelude.{ℕ, ◌≡◌, ◌≢◌, ◌<◌, ◌≤◌, ◌⊎◌, true, List, length, Ok}
use Rattle.question_text.specs.declared.question.Question.{Question}
use Rattle.question_text.specs.Values.{QuestionValue}
use Rattle.question_text.specs.Documents.{document}
use Rattle.cert_text.specs.declared.cert_error.CertError.{CertError}
use Rattle.cert_text.specs.declared.cert_error.CertError.TheVariants as certs
use Rattle.cert_text.specs.Certificates.{Certificate}
use Rattle.cert_text.specs.Drafts.{StandsFor}
use Rattle.cert_text.specs.Faults.{IsFirstFault}
use Rattle.cert_check.specs.Asked.{Reason, HasProperty, FailsFirst}
use Rattle.cert_check.specs.Judgements.{asked_by}
use Rattle.desk_ports.specs.Shelves.{ShelfView}
use Rattle.desk_ports.specs.Sinks.{SinkView}
use Rattle.desk_texts.specs.Faults.{cert_fault, too_long}
use Rattle.desk_texts.specs.Lines.{malformed_line}
use Rattle.arbac_desk.specs.declared.TheConstants.{MOST_QUESTION_BYTES, MOST_CERT_BYTES}
use Rattle.arbac_desk.specs.Statuses.{DONE, MALFORMED, REFUSED}
use Rattle.arbac_desk.specs.Answers.{AreTold, HasFetched, HasMissed, IsUnread, IsFileReply, Says}
use Rattle.arbac_desk.specs.Questions.{IsQuestion, IsMalformedQuestion, Shows}
use Rattle.arbac_desk.specs.CheckTexts.{accepted_text, refused_text}

-- the bytes, few enough, are a certificate text under the names of the question's roles
pub record IsCert (question : Question) (bytes : List ℕ) (cert : Certificate) : Type 0 where
  pub few : length bytes ≤ MOST_CERT_BYTES
  pub stands : StandsFor question.policy.order.names bytes cert

-- the bytes are no certificate text, and this is their first fault
pub record IsNoCert (question : Question) (bytes : List ℕ) (fault : CertError) : Type 0 where
  pub first : IsFirstFault question.policy.order.names bytes fault
  pub told : fault ≢ certs.Memory
  pub none : (cert : Certificate) → ¬ StandsFor question.policy.order.names bytes cert

-- the bytes of CERT are too many, or no certificate text; the line names the file and the fault
abbrev pub IsMalformedCert : Question → List ℕ → List ℕ → List ℕ → Type 0
IsMalformedCert question name bytes text =
    ((MOST_CERT_BYTES < length bytes) × (text ≡ malformed_line name too_long))
    ⊎ ((length bytes ≤ MOST_CERT_BYTES) × (fault : CertError) × IsNoCert question bytes fault × (text ≡ malformed_line name (cert_fault fault)))

-- the certificate has its property
pub record IsAccepted (question : Question) (bytes text : List ℕ) : Type 0 where
  pub cert : Certificate
  pub is_cert : IsCert question bytes cert
  pub has : HasProperty (asked_by question) cert
  pub shows : Shows (asked_by question) cert
  pub text_is : text ≡ accepted_text cert

-- the certificate fails first for a reason, and hasn't its property
pub record IsRefused (question : Question) (bytes text : List ℕ) : Type 0 where
  pub cert : Certificate
  pub is_cert : IsCert question bytes cert
  pub reason : Reason
  pub fails : FailsFirst (asked_by question) cert reason
  pub lacks : ¬ HasProperty (asked_by question) cert
  pub text_is : text ≡ refused_text question.policy.order.names reason

-- under this question, the status and the text are those to these bytes of CERT
abbrev pub IsReplyToCert : Question → List ℕ → List ℕ → ℕ → List ℕ → Type 0
IsReplyToCert question name bytes status text =
    ((status ≡ DONE) × IsAccepted question bytes text)
    ⊎ (((status ≡ REFUSED) × IsRefused question bytes text)
    ⊎ ((status ≡ MALFORMED) × IsMalformedCert question name bytes text))

-- under this question, what is to be written of CERT
abbrev pub IsReplyWith : Question → List ℕ → ShelfView → ShelfView → ℕ → List ℕ → Type 0
IsReplyWith question name = IsFileReply (IsReplyToCert question name) name

-- the bytes of QUESTION are no question with a goal; CERT isn't fetched
pub record IsUnasked (name bytes : List ℕ) (shelf shelf' : ShelfView) (status : ℕ) (text : List ℕ) : Type 0 where
  pub fetched : HasFetched shelf shelf'
  pub status_is : status ≡ MALFORMED
  pub malformed : IsMalformedQuestion name bytes text

-- the bytes of QUESTION are a question with a goal, and CERT has this reply under it
pub record IsAsked (bytes cert_name : List ℕ) (shelf shelf' : ShelfView) (status : ℕ) (text : List ℕ) : Type 0 where
  pub few : length bytes ≤ MOST_QUESTION_BYTES
  pub question : Question
  pub is_question : IsQuestion bytes question
  pub reply : IsReplyWith question cert_name shelf shelf' status text

-- what is to be written where QUESTION has these bytes
abbrev pub IsReplyFor : List ℕ → List ℕ → List ℕ → ShelfView → ShelfView → ℕ → List ℕ → Type 0
IsReplyFor question_name bytes cert_name shelf shelf' status text =
    IsUnasked question_name bytes shelf shelf' status text ⊎ IsAsked bytes cert_name shelf shelf' status text

-- QUESTION was read, and its bytes have this reply
pub record IsQuestionRead (question_name cert_name : List ℕ) (shelf shelf' : ShelfView) (status : ℕ) (text : List ℕ) : Type 0 where
  pub bytes : List ℕ
  pub told : AreTold (shelf.told question_name) bytes
  pub reply : IsReplyFor question_name bytes cert_name shelf shelf' status text

-- what is to be written, and with which status
abbrev pub IsCheckReply : List ℕ → List ℕ → ShelfView → ShelfView → ℕ → List ℕ → Type 0
IsCheckReply question_name cert_name shelf shelf' status text =
    IsQuestionRead question_name cert_name shelf shelf' status text ⊎ IsUnread question_name shelf shelf' status text

-- no fetch failed, or that of one of the two files did
abbrev pub HasAskedBoth : List ℕ → List ℕ → ShelfView → ShelfView → Type 0
HasAskedBoth question_name cert_name shelf shelf' =
    HasFetched shelf shelf' ⊎ (HasMissed shelf shelf' question_name ⊎ HasMissed shelf shelf' cert_name)

-- the answer to `check QUESTION CERT`: at most two files are fetched, QUESTION first, and one text is written
pub record IsCheckAnswer (question_name cert_name : List ℕ) (shelf shelf' : ShelfView) (sink sink' : SinkView) (status : ℕ) : Type 0 where
  pub asked : HasAskedBoth question_name cert_name shelf shelf'
  pub says : Says (IsCheckReply question_name cert_name shelf shelf') sink sink' status

-- the bytes of the two files, few enough, are a question with a goal, and a certificate text under the names of its roles
pub record AreCheckTexts (bytes cert_bytes : List ℕ) : Type 0 where
  pub few : length bytes ≤ MOST_QUESTION_BYTES
  pub question : QuestionValue
  pub stands : document true bytes (Ok question)
  pub few_of_cert : length cert_bytes ≤ MOST_CERT_BYTES
  pub cert : Certificate
  pub cert_stands : StandsFor question.names cert_bytes cert
