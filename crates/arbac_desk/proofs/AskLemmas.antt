-- The replies of `ask`: to what was fetched and to what the file holds, and what their statuses tell of the question.
use Rattle.std.proofs.Common.{ℕ, ◌≡◌, ◌∙◌, List, refl, sym, arith, subst, inl, inr}
use Rattle.std.specs.Prelude.{◌⊎◌, ◌≢◌}
use Rattle.question_text.specs.declared.question.Question.{Question}
use Rattle.question_text.specs.Values.{plain_of}
use Rattle.question_text.specs.declared.question_error.QuestionError.{QuestionError}
use Rattle.question_text.specs.declared.question_error.QuestionError.TheVariants as questions
use Rattle.desk_ports.specs.declared.askers.Asked as code
use Rattle.desk_ports.specs.declared.askers.Asked.TheVariants as told
use Rattle.cert_text.specs.Certificates.{Certificate, reachable, unreachable, undecided}
use Rattle.cert_text.specs.Texts.{certificate_text}
use Rattle.cert_check.specs.Asked.{Asked, Reason, HasProperty, FailsFirst}
use Rattle.cert_check.specs.Judgements.{asked_by}
use Rattle.question_answer.specs.declared.certificates.Kind.{Kind}
use Rattle.question_answer.specs.declared.certificates.Kind.TheVariants.{Reachable, Unreachable, Undecided}
use Rattle.question_answer.specs.Outcomes.{IsKind}
use Rattle.question_answer.specs.Answers.{IsAnswerTo}
use Rattle.desk_ports.specs.Shelves.{ShelfView}
use Rattle.desk_ports.specs.Sinks.{SinkView}
use Rattle.arbac_desk.specs.declared.TheConstants.{MOST_QUESTION_BYTES}
use Rattle.arbac_desk.specs.Statuses.{MALFORMED, status_of}
use Rattle.arbac_desk.specs.Answers.{IsSaid, IsFileReply}
use Rattle.arbac_desk.specs.Questions.{IsQuestion, IsNoQuestion, IsQuestionText, Shows}
use Rattle.arbac_desk.specs.AskAnswers.{IsAnswerFor, IsFaultAnswer, IsAskedText, IsAnswered, IsReplyToDocument, IsAskAnswer}
use Rattle.arbac_desk.specs.Headline.{TellsPlan, TellsNever, TellsLimit, IsAcceptable, TookSuch}
use Rattle.arbac_desk.proofs.AnswerLemmas.{all_said, IsOfReply, Sorts, of_number, malformed_is}
use Rattle.arbac_desk.proofs.FetchLemmas.{whole}
use Rattle.arbac_desk.proofs.FileLemmas.{IsOfAll, AreReplies}
use Rattle.arbac_desk.proofs.QuestionLemmas.{question_malformed, no_question_text}

-- ---- replies

-- the reply to what was fetched is the reply to what the file holds
pub ask_replied : (limit : ℕ) (name : List ℕ) → IsOfAll MOST_QUESTION_BYTES (IsReplyToDocument limit name)
ask_replied limit name all bytes status text e (inl h) = inl (subst (λ b. IsAnswered limit b status text) (whole MOST_QUESTION_BYTES all bytes e h.few) h)
ask_replied limit name all bytes status text e (inr (told, h)) = inr (told, question_malformed name all bytes text e h)

kind_status : (kind : Kind) (status : ℕ) → status ≡ status_of kind → IsOfReply status
kind_status Reachable status = of_number 6 10 status refl (λ e. omega (arith, e)) (λ e. omega (arith, e))
kind_status Unreachable status = of_number 7 20 status refl (λ e. omega (arith, e)) (λ e. omega (arith, e))
kind_status Undecided status = of_number 9 30 status refl (λ e. omega (arith, e)) (λ e. omega (arith, e))

reply_status : (limit : ℕ) (name bytes : List ℕ) (status : ℕ) (text : List ℕ) → IsReplyToDocument limit name bytes status text → IsOfReply status
reply_status limit name bytes status text (inl h) = kind_status h.kind status h.status_is
reply_status limit name bytes status text (inr h) = malformed_is status h.0

-- the statuses of a question
abbrev pub IsOfQuestion : ℕ → Type 0
IsOfQuestion status = (status ≡ 10) ⊎ ((status ≡ 20) ⊎ ((status ≡ 30) ⊎ (status ≡ 7)))

kind_right : (kind : Kind) (status : ℕ) → status ≡ status_of kind → IsOfQuestion status
kind_right Reachable status e = inl e
kind_right Unreachable status e = inr (inl e)
kind_right Undecided status e = inr (inr (inl e))

kind_apart : (kind : Kind) (status : ℕ) → status ≡ status_of kind → status ≡ MALFORMED → ⊥
kind_apart Reachable status e f = let g : status ≡ 10 = e in let h : status ≡ 3 = f in omega (arith, g, h)
kind_apart Unreachable status e f = let g : status ≡ 20 = e in let h : status ≡ 3 = f in omega (arith, g, h)
kind_apart Undecided status e f = let g : status ≡ 30 = e in let h : status ≡ 3 = f in omega (arith, g, h)

-- a reply of a status that isn't malformed is one to a question
reply_sorts : (limit : ℕ) (name bytes : List ℕ) (status : ℕ) (text : List ℕ) → IsReplyToDocument limit name bytes status text
    → Sorts IsOfQuestion (IsQuestionText bytes) status
reply_sorts limit name bytes status text (inl h) = inl (
  (h.few, plain_of h.answer.question, h.answer.is_question.stands),
  kind_right h.kind status h.status_is,
  kind_apart h.kind status h.status_is,
)
reply_sorts limit name bytes status text (inr (told, h)) = inr (told, no_question_text name bytes text h)

-- what is known of the replies
pub are_replies : (limit : ℕ) (name : List ℕ) → AreReplies (IsReplyToDocument limit name) IsOfQuestion IsQuestionText
are_replies limit name = record {
  of_reply = reply_status limit name;
  sorts = reply_sorts limit name;
  memory = λ status out. inr (inr (inr out));
}

-- a document's first fault is answered
pub fault_answered : (limit : ℕ) (document : List ℕ) (fault : QuestionError) (answer : code.Asked) → (fault ≢ questions.Memory → IsNoQuestion document fault)
    → IsFaultAnswer fault answer → IsAskedText limit document answer
fault_answered limit document fault (told.Answer text) none h = absurd h
fault_answered limit document fault (told.Malformed text) none h = (fault, none h.0, h.1)
fault_answered limit document fault told.Memory none h = tt

-- ---- what the answer tells

-- the statuses of an answer to a question, want of memory left out
abbrev pub IsOfKind : ℕ → Type 0
IsOfKind status = (status ≡ 10) ⊎ ((status ≡ 20) ⊎ (status ≡ 30))

other_number : (status number : ℕ) → IsOfKind status → (10 ≡ number → ⊥) → (20 ≡ number → ⊥) → (30 ≡ number → ⊥) → status ≡ number → ⊥
other_number status number (inl e) ten twenty thirty f = ten (sym e ∙ f)
other_number status number (inr (inl e)) ten twenty thirty f = twenty (sym e ∙ f)
other_number status number (inr (inr e)) ten twenty thirty f = thirty (sym e ∙ f)

-- with such a status the sink took a text that answers bytes which the shelf tells, if it tells any
pub took_such : (limit : ℕ) (name : List ℕ) (shelf shelf' : ShelfView) (sink sink' : SinkView) (status : ℕ) (Is : List ℕ → List ℕ → Type 0)
    → IsAskAnswer name limit shelf shelf' sink sink' status → IsOfKind status
    → ((bytes text : List ℕ) → IsAnswered limit bytes status text → Is bytes text) → TookSuch Is (shelf.told name) sink sink'
took_such limit name shelf shelf' sink sink' status Is answer kind to = by_reply said.wanted
  where
    other : (number : ℕ) → (10 ≡ number → ⊥) → (20 ≡ number → ⊥) → (30 ≡ number → ⊥) → status ≡ number → ⊥
    other number = other_number status number kind

    said : IsSaid (IsFileReply (IsReplyToDocument limit name) name shelf shelf') sink sink' status
    said = all_said (IsFileReply (IsReplyToDocument limit name) name shelf shelf') sink sink' status answer.says
        (other 5 (λ e. omega (arith, e)) (λ e. omega (arith, e)) (λ e. omega (arith, e)))
        (other 7 (λ e. omega (arith, e)) (λ e. omega (arith, e)) (λ e. omega (arith, e)))

    by_reply : IsFileReply (IsReplyToDocument limit name) name shelf shelf' status said.text → TookSuch Is (shelf.told name) sink sink'
    by_reply (inl read) = by_bytes read.reply
      where
        by_bytes : IsReplyToDocument limit name read.bytes status said.text → TookSuch Is (shelf.told name) sink sink'
        by_bytes (inl h) = record {
          bytes = read.bytes;
          are_told = read.told;
          text = said.text;
          is = to read.bytes said.text h;
          took = said.took;
        }
        by_bytes (inr h) = absurd (other 3 (λ e. omega (arith, e)) (λ e. omega (arith, e)) (λ e. omega (arith, e)) h.0)
    by_reply (inr unread) = absurd (other 4 (λ e. omega (arith, e)) (λ e. omega (arith, e)) (λ e. omega (arith, e)) unread.told)

-- the kind of each status
reachable_is : (kind : Kind) → 10 ≡ status_of kind → kind ≡ Reachable
reachable_is Reachable e = refl
reachable_is Unreachable e = absurd (omega (arith, e))
reachable_is Undecided e = absurd (omega (arith, e))

unreachable_is : (kind : Kind) → 20 ≡ status_of kind → kind ≡ Unreachable
unreachable_is Reachable e = absurd (omega (arith, e))
unreachable_is Unreachable e = refl
unreachable_is Undecided e = absurd (omega (arith, e))

undecided_is : (kind : Kind) → 30 ≡ status_of kind → kind ≡ Undecided
undecided_is Reachable e = absurd (omega (arith, e))
undecided_is Unreachable e = absurd (omega (arith, e))
undecided_is Undecided e = refl

-- a certificate of the question, with its text
record IsText (limit : ℕ) (bytes text : List ℕ) (question : Question) (cert : Certificate) : Type 0 where
  is_question : IsQuestion bytes question
  answers : IsAnswerTo (asked_by question) limit cert
  has : HasProperty (asked_by question) cert
  shows : Shows (asked_by question) cert
  text_is : text ≡ certificate_text question.policy.order.names cert

is_text : (limit : ℕ) (bytes text : List ℕ) (kind : Kind) → (h : IsAnswerFor limit bytes kind text) → IsText limit bytes text h.question h.answer.cert
is_text limit bytes text kind h = record {
  is_question = h.is_question;
  answers = h.answer.answers;
  has = h.answer.has;
  shows = h.shows;
  text_is = h.answer.text_is;
}

plan_of : (limit : ℕ) (bytes text : List ℕ) (question : Question) (cert : Certificate) → IsText limit bytes text question cert
    → IsKind cert Reachable → TellsPlan bytes text
plan_of limit bytes text question (reachable start acts) h kind = record {
  question = question;
  is_question = h.is_question;
  start = start;
  acts = acts;
  text_is = h.text_is;
  drawn = h.has.drawn;
  users = h.has.users;
  are_users = h.has.are_users;
  end = h.has.end;
  run = h.has.run;
  met = h.has.met;
}
plan_of limit bytes text question (unreachable needs) h kind = cc kind
plan_of limit bytes text question (undecided most recorded next) h kind = cc kind

never_of : (limit : ℕ) (bytes text : List ℕ) (question : Question) (cert : Certificate) → IsText limit bytes text question cert
    → IsKind cert Unreachable → TellsNever bytes text
never_of limit bytes text question (reachable start acts) h kind = cc kind
never_of limit bytes text question (unreachable needs) h kind = record {
  question = question;
  is_question = h.is_question;
  never = h.shows;
  needs = needs;
  text_is = h.text_is;
  closed = h.has;
}
never_of limit bytes text question (undecided most recorded next) h kind = cc kind

limit_of : (limit : ℕ) (bytes text : List ℕ) (question : Question) (cert : Certificate) → IsText limit bytes text question cert
    → IsKind cert Undecided → TellsLimit limit bytes text
limit_of limit bytes text question (reachable start acts) h kind = cc kind
limit_of limit bytes text question (unreachable needs) h kind = cc kind
limit_of limit bytes text question (undecided most recorded next) h kind =
    let same : most ≡ limit = h.answers.tells.1 in
    record {
      question = question;
      is_question = h.is_question;
      recorded = recorded;
      next = next;
      text_is = subst (λ n. text ≡ certificate_text question.policy.order.names (undecided n recorded next)) same h.text_is;
      count = h.has.0 ∙ same;
      list = h.has.1;
    }

-- what the answer of each status says
pub tells_plan : (limit : ℕ) (bytes : List ℕ) (status : ℕ) (text : List ℕ) → status ≡ 10 → IsAnswered limit bytes status text → TellsPlan bytes text
tells_plan limit bytes status text e h =
    plan_of limit bytes text h.answer.question h.answer.answer.cert (is_text limit bytes text h.kind h.answer)
    (subst (IsKind h.answer.answer.cert) (reachable_is h.kind (sym e ∙ h.status_is)) h.answer.answer.says)

pub tells_never : (limit : ℕ) (bytes : List ℕ) (status : ℕ) (text : List ℕ) → status ≡ 20 → IsAnswered limit bytes status text → TellsNever bytes text
tells_never limit bytes status text e h =
    never_of limit bytes text h.answer.question h.answer.answer.cert (is_text limit bytes text h.kind h.answer)
    (subst (IsKind h.answer.answer.cert) (unreachable_is h.kind (sym e ∙ h.status_is)) h.answer.answer.says)

pub tells_limit : (limit : ℕ) (bytes : List ℕ) (status : ℕ) (text : List ℕ) → status ≡ 30 → IsAnswered limit bytes status text
    → TellsLimit limit bytes text
tells_limit limit bytes status text e h =
    limit_of limit bytes text h.answer.question h.answer.answer.cert (is_text limit bytes text h.kind h.answer)
    (subst (IsKind h.answer.answer.cert) (undecided_is h.kind (sym e ∙ h.status_is)) h.answer.answer.says)

-- the checker accepts it
pub acceptable : (limit : ℕ) (bytes : List ℕ) (status : ℕ) (text : List ℕ)
    → ((asked : Asked) (cert : Certificate) (reason : Reason) → HasProperty asked cert → FailsFirst asked cert reason → ⊥)
    → IsAnswered limit bytes status text → IsAcceptable bytes text
acceptable limit bytes status text none h = record {
  question = h.answer.question;
  is_question = h.answer.is_question;
  cert = h.answer.answer.cert;
  stands = h.answer.answer.stands;
  has = h.answer.answer.has;
  passes = λ reason. none (asked_by h.answer.question) h.answer.answer.cert reason h.answer.answer.has;
}
