-- What `make` answers.
use Rattle.std.specs.Prelude.{ℕ, ◌≡◌, List, ◌++◌, codes, length}
use Rattle.std.specs.Fmt.{decimal}
use Rattle.question_text.specs.declared.question.Question.{Question}
use Rattle.question_text.specs.Values.{plain_of}
use Rattle.cert_check.specs.Judgements.{asked_by}
use Rattle.sample_question.specs.Samples.{sample}
use Rattle.back_search.specs.declared.outcome.Outcome.{Outcome}
use Rattle.back_search.specs.declared.outcome.Outcome.TheVariants.{Found, Closed, Limit}
use Rattle.question_answer.specs.Outcomes.{IsOutcomeOf}
use Rattle.desk_ports.specs.Sinks.{SinkView}
use Rattle.arbac_desk.specs.Statuses.{DONE}
use Rattle.arbac_desk.specs.Answers.{Says}

-- how many requirements were recorded as the search ended, and how it ended
abbrev pub end_text : Outcome → List ℕ
end_text (Found choice acts count) = codes ", recorded " ++ decimal count ++ codes ", reachable by " ++ decimal (length acts.items) ++ codes " acts\n"
end_text (Closed needs count) = codes ", recorded " ++ decimal count ++ codes ", unreachable by " ++ decimal (length needs.items) ++ codes " needs\n"
end_text (Limit recorded next) = codes ", recorded " ++ decimal (length recorded.items) ++ codes ", undecided\n"

-- `make N: roles R, rules K, recorded M, ANSWER`
unfoldable pub made_line : ℕ → ℕ → ℕ → Outcome → List ℕ
made_line size roles rules outcome =
    codes "make " ++ decimal size ++ codes ": roles " ++ decimal roles ++ codes ", rules " ++ decimal rules ++ end_text outcome

-- the line is that of the outcome of the sample question of this size, searched with this limit
pub record IsMade (size limit : ℕ) (text : List ℕ) : Type 0 where
  pub question : Question
  pub is_sample : plain_of question ≡ sample size
  pub outcome : Outcome
  pub is_outcome : IsOutcomeOf (asked_by question) limit outcome
  pub text_is : text ≡ made_line size (length (sample size).names) (length (sample size).assign) outcome

-- what is to be written, and with which status
abbrev pub IsMadeReply : ℕ → ℕ → ℕ → List ℕ → Type 0
IsMadeReply size limit status text = (status ≡ DONE) × IsMade size limit text

-- the answer to `make N`: one line is written
abbrev pub IsMakeAnswer : ℕ → ℕ → SinkView → SinkView → ℕ → Type 0
IsMakeAnswer size limit = Says (IsMadeReply size limit)
