-- Which status the two texts of `check` have, where the shelf tells them.
use Rattle.std.proofs.Common.{ℕ, ◌≡◌, ◌≤◌, List, length, refl, arith, subst, sym, inl, inr, Option, Some, None}
use Rattle.std.specs.Prelude.{◌⊎◌, IfSome}
use Rattle.question_text.specs.declared.question.Question.{Question}
use Rattle.question_text.specs.Values.{QuestionValue, plain_of}
use Rattle.cert_text.specs.Certificates.{Certificate}
use Rattle.cert_text.specs.Drafts.{StandsFor}
use Rattle.desk_ports.specs.Shelves.{ShelfView}
use Rattle.desk_ports.specs.Sinks.{SinkView}
use Rattle.desk_texts.specs.Faults.{cert_fault, too_long}
use Rattle.desk_texts.specs.Lines.{malformed_line}
use Rattle.arbac_desk.specs.declared.TheConstants.{MOST_QUESTION_BYTES, MOST_CERT_BYTES}
use Rattle.arbac_desk.specs.Statuses.{READ_FAULT, NO_MEMORY}
use Rattle.arbac_desk.specs.Answers.{IsFaultless, AreTold}
use Rattle.arbac_desk.specs.Questions.{IsQuestion, IsMalformedQuestion}
use Rattle.arbac_desk.specs.CheckAnswers.{IsCert, IsNoCert, IsMalformedCert, IsReplyToCert, IsReplyFor, IsCheckReply}
use Rattle.arbac_desk.specs.CheckAnswers.{IsCheckAnswer, AreCheckTexts}
use Rattle.arbac_desk.proofs.AnswerLemmas.{all_said, faultless, Sorts, is_right, is_malformed, is_no_text}
use Rattle.arbac_desk.proofs.FetchLemmas.{no_text}
use Rattle.arbac_desk.proofs.FileLemmas.{of_told}
use Rattle.arbac_desk.proofs.QuestionLemmas.{no_question_text}
use Rattle.arbac_desk.proofs.CheckLemmas.{check_ends}

-- the statuses of a question and a certificate text
abbrev IsOfBoth : ℕ → Type 0
IsOfBoth status = (status ≡ 0) ⊎ ((status ≡ 21) ⊎ (status ≡ 7))

-- a question of few bytes, and a certificate of it
both_texts : (bytes cert_bytes : List ℕ) (question : Question) (cert : Certificate) → length bytes ≤ MOST_QUESTION_BYTES → IsQuestion bytes question
    → IsCert question cert_bytes cert → AreCheckTexts bytes cert_bytes
both_texts bytes cert_bytes question cert few is is_cert = record {
  few = few;
  question = plain_of question;
  stands = is.stands;
  few_of_cert = is_cert.few;
  cert = cert;
  cert_stands = is_cert.stands;
}

-- bytes that are told as malformed are no certificate of the question
not_cert : (name bytes cert_bytes text : List ℕ) (question : Question) → IsQuestion bytes question → IsMalformedCert question name cert_bytes text
    → AreCheckTexts bytes cert_bytes → ⊥
not_cert name bytes cert_bytes text question is h texts =
    no_text MOST_CERT_BYTES (malformed_line name too_long) (IsNoCert question) (λ fault. malformed_line name (cert_fault fault)) cert_bytes text
    (AreCheckTexts bytes cert_bytes) (λ also. also.few_of_cert)
    (λ fault none also.
    let same : plain_of question ≡ also.question = is.only also.question also.stands in
    none.none also.cert (subst (λ (value : QuestionValue). StandsFor value.names cert_bytes also.cert) (sym same) also.cert_stands))
    h texts

-- the reply to a certificate tells whether it is one of the question
cert_sorts : (name bytes cert_bytes : List ℕ) (question : Question) (status : ℕ) (text : List ℕ) → length bytes ≤ MOST_QUESTION_BYTES
    → IsQuestion bytes question → IsReplyToCert question name cert_bytes status text → Sorts IsOfBoth (AreCheckTexts bytes cert_bytes) status
cert_sorts name bytes cert_bytes question status text few is (inl (told, h)) = inl (
  both_texts bytes cert_bytes question h.cert few is h.is_cert,
  inl told,
  λ e. let f : status ≡ 0 = told in let g : status ≡ 3 = e in omega (arith, f, g),
)
cert_sorts name bytes cert_bytes question status text few is (inr (inl (told, h))) = inl (
  both_texts bytes cert_bytes question h.cert few is h.is_cert,
  inr (inl told),
  λ e. let f : status ≡ 21 = told in let g : status ≡ 3 = e in omega (arith, f, g),
)
cert_sorts name bytes cert_bytes question status text few is (inr (inr (told, h))) = inr (told, not_cert name bytes cert_bytes text question is h)

module _ (question_name cert_name : List ℕ) (shelf shelf' : ShelfView) (sink sink' : SinkView) (status : ℕ)
    (answer : IsCheckAnswer question_name cert_name shelf shelf' sink sink' status) where
  -- a reply that tells no fault of the shelf is one to the bytes that it tells
  both_told : (bytes cert_bytes text : List ℕ) → shelf.told question_name ≡ Some bytes → shelf.told cert_name ≡ Some cert_bytes
      → (status ≡ READ_FAULT → ⊥) → IsCheckReply question_name cert_name shelf shelf' status text
      → Sorts IsOfBoth (AreCheckTexts bytes cert_bytes) status
  both_told bytes cert_bytes text told cert_told other (inl read) = by_reply read.reply
    where
      same : read.bytes ≡ bytes
      same = subst (λ t. AreTold t read.bytes) told read.told

      by_reply : IsReplyFor question_name read.bytes cert_name shelf shelf' status text → Sorts IsOfBoth (AreCheckTexts bytes cert_bytes) status
      by_reply (inl unasked) =
          let malformed = subst (λ b. IsMalformedQuestion question_name b text) same unasked.malformed in
          inr (unasked.status_is, λ texts. no_question_text question_name bytes text malformed (texts.few, texts.question, texts.stands))
      by_reply (inr asked) =
          cert_sorts cert_name bytes cert_bytes asked.question status text (subst (λ b. length b ≤ MOST_QUESTION_BYTES) same asked.few)
          (subst (λ b. IsQuestion b asked.question) same asked.is_question)
          (of_told (IsReplyToCert asked.question cert_name) cert_name shelf shelf' cert_bytes status text cert_told other asked.reply)
  both_told bytes cert_bytes text told cert_told other (inr unread) = absurd (other unread.told)

  -- where neither count rose and memory was left, the bytes have a reply
  both_sorted : (bytes cert_bytes : List ℕ) → shelf.told question_name ≡ Some bytes → shelf.told cert_name ≡ Some cert_bytes
      → IsFaultless shelf shelf' sink sink' → (status ≡ NO_MEMORY) ⊎ Sorts IsOfBoth (AreCheckTexts bytes cert_bytes) status
  both_sorted bytes cert_bytes told cert_told none =
      by_reply (faultless (IsCheckReply question_name cert_name shelf shelf') shelf shelf' sink sink' status
      (check_ends question_name cert_name shelf shelf') answer.says none)
    where
      by_reply : (status ≡ NO_MEMORY)
          ⊎ ((text : List ℕ) × IsCheckReply question_name cert_name shelf shelf' status text × (status ≡ READ_FAULT → ⊥))
          → (status ≡ NO_MEMORY) ⊎ Sorts IsOfBoth (AreCheckTexts bytes cert_bytes) status
      by_reply (inl out) = inl out
      by_reply (inr (text, reply, other)) = inr (both_told bytes cert_bytes text told cert_told other reply)

  -- a question and a certificate text are judged
  pub is_judged : IfSome (shelf.told question_name) (λ bytes. IfSome (shelf.told cert_name) (λ cert_bytes.
      AreCheckTexts bytes cert_bytes → IsFaultless shelf shelf' sink sink' → (status ≡ 0) ⊎ ((status ≡ 21) ⊎ (status ≡ 7))))
  is_judged = by_told (shelf.told question_name) (shelf.told cert_name) refl refl
    where
      by_told : (told cert_told : Option (List ℕ)) → shelf.told question_name ≡ told → shelf.told cert_name ≡ cert_told
          → IfSome told (λ bytes. IfSome cert_told (λ cert_bytes.
          AreCheckTexts bytes cert_bytes → IsFaultless shelf shelf' sink sink' → (status ≡ 0) ⊎ ((status ≡ 21) ⊎ (status ≡ 7))))
      by_told None cert_told e f = tt
      by_told (Some bytes) None e f = tt
      by_told (Some bytes) (Some cert_bytes) e f = λ texts none.
          is_right IsOfBoth (AreCheckTexts bytes cert_bytes) status texts (λ out. inr (inr out)) (both_sorted bytes cert_bytes e f none)

  -- what is told as malformed isn't both, and what isn't is told so, where neither count rose and memory was left
  pub is_unjudged : IfSome (shelf.told question_name) (λ bytes. IfSome (shelf.told cert_name) (λ cert_bytes.
      (status ≡ 3 → AreCheckTexts bytes cert_bytes → ⊥)
      × ((AreCheckTexts bytes cert_bytes → ⊥) → IsFaultless shelf shelf' sink sink' → (status ≡ 3) ⊎ (status ≡ 7))))
  is_unjudged = by_told (shelf.told question_name) (shelf.told cert_name) refl refl
    where
      by_told : (told cert_told : Option (List ℕ)) → shelf.told question_name ≡ told → shelf.told cert_name ≡ cert_told
          → IfSome told (λ bytes. IfSome cert_told (λ cert_bytes.
          (status ≡ 3 → AreCheckTexts bytes cert_bytes → ⊥)
          × ((AreCheckTexts bytes cert_bytes → ⊥) → IsFaultless shelf shelf' sink sink' → (status ≡ 3) ⊎ (status ≡ 7))))
      by_told None cert_told e f = tt
      by_told (Some bytes) None e f = tt
      by_told (Some bytes) (Some cert_bytes) e f = (
        λ three texts.
            let said = all_said (IsCheckReply question_name cert_name shelf shelf') sink sink' status answer.says
            (λ w. let g : status ≡ 5 = w in omega (arith, three, g)) (λ m. let g : status ≡ 7 = m in omega (arith, three, g)) in
            is_no_text IsOfBoth (AreCheckTexts bytes cert_bytes) status
            (both_told bytes cert_bytes said.text e f (λ r. let g : status ≡ 4 = r in omega (arith, three, g)) said.wanted) three texts,
        λ other none.
            is_malformed IsOfBoth (AreCheckTexts bytes cert_bytes) status other (both_sorted bytes cert_bytes e f none),
      )
