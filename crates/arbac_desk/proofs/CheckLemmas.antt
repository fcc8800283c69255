-- The reply to what was fetched of the two files, and to what these hold; and what the answer to `check` tells.
use Rattle.std.proofs.Common.{ℕ, ◌≡◌, ◌≤◌, ◌+◌, List, length, take, refl, subst, inl, inr}
use Rattle.std.specs.Prelude.{◌⊎◌, IfSome, IfOk, Result, Ok, Err}
use Rattle.std.specs.declared.alloc.AllocError.{AllocError}
use Rattle.question_text.specs.declared.question.Question.{Question}
use Rattle.cert_text.specs.declared.cert_error.CertError.{CertError}
use Rattle.cert_text.specs.declared.cert_error.CertError.TheVariants as certs
use Rattle.cert_text.specs.declared.cert_error.CertError.TheVariants.{BadLine, UnknownRole, Unended, Memory}
use Rattle.cert_text.specs.Faults.{IsFirstFault, IsRefused as IsRefusedText}
use Rattle.desk_ports.specs.Shelves.{ShelfView}
use Rattle.desk_ports.specs.Sinks.{SinkView}
use Rattle.desk_texts.specs.Faults.{cert_fault, too_long}
use Rattle.desk_texts.specs.Lines.{malformed_line}
use Rattle.arbac_desk.specs.declared.TheConstants.{MOST_QUESTION_BYTES, MOST_CERT_BYTES}
use Rattle.arbac_desk.specs.declared.reply.Reply.{Reply}
use Rattle.arbac_desk.specs.Answers.{AreTold, HasFetched, HasMissed, Says, IsOf}
use Rattle.arbac_desk.specs.Questions.{IsQuestion}
use Rattle.arbac_desk.specs.CheckAnswers.{IsNoCert, IsAccepted, IsRefused, IsReplyToCert, IsReplyWith, IsReplyFor, IsCheckReply, HasAskedBoth}
use Rattle.arbac_desk.specs.CheckAnswers.{IsCheckAnswer}
use Rattle.arbac_desk.proofs.AnswerLemmas.{says_as, of_reply, IsOfReply, Ends, AllEnd, done_is, refused_is, malformed_is}
use Rattle.arbac_desk.proofs.FetchLemmas.{whole, all_malformed, then_fetched, then_missed}
use Rattle.arbac_desk.proofs.FileLemmas.{IsOfAll, held, all_end}
use Rattle.arbac_desk.proofs.QuestionLemmas.{question_malformed}

-- ---- CERT

-- a refusal that isn't want of memory is the first fault
pub first_fault : (names : List (List ℕ)) (bytes : List ℕ) (error : CertError) → IsRefusedText names bytes error → (error ≡ certs.Memory → ⊥)
    → IsFirstFault names bytes error
first_fault names bytes (BadLine at) refused told = refused
first_fault names bytes (UnknownRole at) refused told = refused
first_fault names bytes Unended refused told = refused
first_fault names bytes Memory refused told = absurd (told refl)

-- the reply to what was fetched of CERT is the reply to what the file holds
pub cert_replied : (question : Question) (name : List ℕ) → IsOfAll MOST_CERT_BYTES (IsReplyToCert question name)
cert_replied question name all bytes status text e (inl (told, h)) =
    inl (told, subst (λ b. IsAccepted question b text) (whole MOST_CERT_BYTES all bytes e h.is_cert.few) h)
cert_replied question name all bytes status text e (inr (inl (told, h))) =
    inr (inl (told, subst (λ b. IsRefused question b text) (whole MOST_CERT_BYTES all bytes e h.is_cert.few) h))
cert_replied question name all bytes status text e (inr (inr (told, h))) = inr (inr (
  told,
  all_malformed MOST_CERT_BYTES (malformed_line name too_long) (IsNoCert question) (λ fault. malformed_line name (cert_fault fault)) all bytes text e h,
))

-- ---- QUESTION

-- the shelf tells the same texts
abbrev TellsSame : ShelfView → ShelfView → Type 0
TellsSame shelf middle = (any : List ℕ) → middle.told any ≡ shelf.told any

-- what is to be written of CERT, seen from before QUESTION was fetched
with_earlier : (question : Question) (name : List ℕ) (shelf middle shelf' : ShelfView) (status : ℕ) (text : List ℕ) → HasFetched shelf middle
    → TellsSame shelf middle → IsReplyWith question name middle shelf' status text → IsReplyWith question name shelf shelf' status text
with_earlier question name shelf middle shelf' status text first same (inl judged) = inl (record {
  fetched = then_fetched shelf middle shelf' first judged.fetched;
  bytes = judged.bytes;
  told = subst (λ t. AreTold t judged.bytes) (same name) judged.told;
  reply = judged.reply;
})
with_earlier question name shelf middle shelf' status text first same (inr unread) = inr (record {
  told = unread.told;
  missed = then_missed shelf middle shelf' name first unread.missed;
  text_is = unread.text_is;
})

-- what is to be written where QUESTION has these bytes, seen from before it was fetched
for_earlier : (question_name bytes cert_name : List ℕ) (shelf middle shelf' : ShelfView) (status : ℕ) (text : List ℕ)
    → HasFetched shelf middle → TellsSame shelf middle
    → IsReplyFor question_name bytes cert_name middle shelf' status text → IsReplyFor question_name bytes cert_name shelf shelf' status text
for_earlier question_name bytes cert_name shelf middle shelf' status text first same (inl unasked) = inl (record {
  fetched = then_fetched shelf middle shelf' first unasked.fetched;
  status_is = unasked.status_is;
  malformed = unasked.malformed;
})
for_earlier question_name bytes cert_name shelf middle shelf' status text first same (inr asked) = inr (record {
  few = asked.few;
  question = asked.question;
  is_question = asked.is_question;
  reply = with_earlier asked.question cert_name shelf middle shelf' status text first same asked.reply;
})

-- the reply where these bytes were fetched of QUESTION is that where it holds all of them
question_replied : (question_name cert_name : List ℕ) (shelf shelf' : ShelfView)
    → IsOfAll MOST_QUESTION_BYTES (λ bytes status text. IsReplyFor question_name bytes cert_name shelf shelf' status text)
question_replied question_name cert_name shelf shelf' all bytes status text e (inl unasked) = inl (record {
  fetched = unasked.fetched;
  status_is = unasked.status_is;
  malformed = question_malformed question_name all bytes text e unasked.malformed;
})
question_replied question_name cert_name shelf shelf' all bytes status text e (inr asked) =
    let equal = whole MOST_QUESTION_BYTES all bytes e asked.few in
    inr (record {
      few = subst (λ b. length b ≤ MOST_QUESTION_BYTES) equal asked.few;
      question = asked.question;
      is_question = subst (λ b. IsQuestion b asked.question) equal asked.is_question;
      reply = asked.reply;
    })

-- the reply to CERT is that to few bytes that are the question
pub asked_with : (question_name bytes cert_name : List ℕ) (question : Question) (shelf shelf' : ShelfView) (reply : Result Reply AllocError)
    → length bytes ≤ MOST_QUESTION_BYTES → IsQuestion bytes question
    → IfOk reply (λ r. IsReplyWith question cert_name shelf shelf' r.status r.text.items)
    → IfOk reply (λ r. IsReplyFor question_name bytes cert_name shelf shelf' r.status r.text.items)
asked_with question_name bytes cert_name question shelf shelf' (Ok reply) few is h =
    inr (record { few = few; question = question; is_question = is; reply = h })
asked_with question_name bytes cert_name question shelf shelf' (Err error) few is h = tt

-- the reply to what was fetched of QUESTION is what is to be written
pub question_fetched : (question_name bytes cert_name : List ℕ) (shelf middle shelf' : ShelfView) (reply : Result Reply AllocError)
    → HasFetched shelf middle → TellsSame shelf middle → IfSome (shelf.told question_name) (λ all. bytes ≡ take (MOST_QUESTION_BYTES + 1) all)
    → IfOk reply (λ r. IsReplyFor question_name bytes cert_name middle shelf' r.status r.text.items)
    → IfOk reply (λ r. IsCheckReply question_name cert_name shelf shelf' r.status r.text.items)
question_fetched question_name bytes cert_name shelf middle shelf' (Ok reply) first same e h =
    let all = held MOST_QUESTION_BYTES (λ bytes status text. IsReplyFor question_name bytes cert_name shelf shelf' status text)
    (question_replied question_name cert_name shelf shelf') bytes reply.status reply.text.items (shelf.told question_name) e
    (for_earlier question_name bytes cert_name shelf middle shelf' reply.status reply.text.items first same h) in
    inl (record { bytes = all.0; told = all.1; reply = all.2 })
question_fetched question_name bytes cert_name shelf middle shelf' (Err error) first same e h = tt

-- behind a fetch that gave its text, one of the second file is one of both
pub both_asked : (question_name cert_name : List ℕ) (shelf middle shelf' : ShelfView) → HasFetched shelf middle
    → HasFetched middle shelf' ⊎ HasMissed middle shelf' cert_name → HasAskedBoth question_name cert_name shelf shelf'
both_asked question_name cert_name shelf middle shelf' first (inl fetched) = inl (then_fetched shelf middle shelf' first fetched)
both_asked question_name cert_name shelf middle shelf' first (inr missed) = inr (inr (then_missed shelf middle shelf' cert_name first missed))

-- the reply is written, or what is told says why not
pub answered : (question_name cert_name : List ℕ) (shelf shelf' : ShelfView) (sink sink' : SinkView) (reply : Result Reply AllocError) (status : ℕ)
    → HasAskedBoth question_name cert_name shelf shelf'
    → IfOk reply (λ r. IsCheckReply question_name cert_name shelf shelf' r.status r.text.items)
    → Says (IsOf reply) sink sink' status → IsCheckAnswer question_name cert_name shelf shelf' sink sink' status
answered question_name cert_name shelf shelf' sink sink' reply status asked h says = record {
  asked = asked;
  says = says_as (IsOf reply) (IsCheckReply question_name cert_name shelf shelf') sink sink' status
      (of_reply (IsCheckReply question_name cert_name shelf shelf') reply h) says;
}

-- ---- statuses

cert_status : (question : Question) (name bytes : List ℕ) (status : ℕ) (text : List ℕ) → IsReplyToCert question name bytes status text
    → IsOfReply status
cert_status question name bytes status text (inl h) = done_is status h.0
cert_status question name bytes status text (inr (inl h)) = refused_is status h.0
cert_status question name bytes status text (inr (inr h)) = malformed_is status h.0

-- each reply tells whether a fetch failed
pub check_ends : (question_name cert_name : List ℕ) (shelf shelf' : ShelfView) → AllEnd (IsCheckReply question_name cert_name shelf shelf') shelf shelf'
check_ends question_name cert_name shelf shelf' status text (inl read) = by_reply read.reply
  where
    by_reply : IsReplyFor question_name read.bytes cert_name shelf shelf' status text → Ends shelf shelf' status
    by_reply (inl unasked) = inl (unasked.fetched.counted, malformed_is status unasked.status_is)
    by_reply (inr asked) =
        all_end (IsReplyToCert asked.question cert_name) cert_name shelf shelf' (cert_status asked.question cert_name) status text asked.reply
check_ends question_name cert_name shelf shelf' status text (inr unread) = inr (unread.missed.counted, unread.told)
