-- What the answers of `ask` say, in three parts: `reachable`, `unreachable` and `undecided`.
use Rattle.std.specs.Prelude.{ℕ, ◌≡◌, List, [], ◌∷◌, ◌++◌, Option, length}
use Rattle.arbac_policy.specs.declared.act.Act.{Act}
use Rattle.arbac_policy.specs.Steps.{Run}
use Rattle.arbac_policy.specs.Goals.{AreUsers, IsDrawnChoice, IsReachable, GoalMet}
use Rattle.arbac_laws.specs.Needs.{Need}
use Rattle.arbac_laws.specs.Closed.{IsClosedList}
use Rattle.arbac_laws.specs.Recorded.{Entry, IsRecordedList}
use Rattle.question_text.specs.declared.question.Question.{Question}
use Rattle.cert_text.specs.Certificates.{Certificate, reachable, unreachable, undecided}
use Rattle.cert_text.specs.Drafts.{StandsFor}
use Rattle.cert_text.specs.Texts.{certificate_text}
use Rattle.cert_check.specs.Asked.{Reason, HasProperty, FailsFirst}
use Rattle.cert_check.specs.Judgements.{asked_by}
use Rattle.desk_ports.specs.Sinks.{SinkView, Took}
use Rattle.arbac_desk.specs.Answers.{AreTold}
use Rattle.arbac_desk.specs.Questions.{IsQuestion}

-- the text tells a plan for the question of the bytes: users drawn by its profiles, and acts that are steps one by one, under its one
-- policy, from these users to a population that meets its goal
pub record TellsPlan (bytes text : List ℕ) : Type 0 where
  pub question : Question
  pub is_question : IsQuestion bytes question
  pub start : List ℕ
  pub acts : List Act
  pub text_is : text ≡ certificate_text question.policy.order.names (reachable start acts)
  pub drawn : IsDrawnChoice question.profiles.items start
  pub users : List (List ℕ)
  pub are_users : AreUsers question.profiles.items start users
  pub end : List (List ℕ)
  pub run : Run question.policy users acts end
  pub met : GoalMet question.policy.order.edges (asked_by question).goal end

-- no number of users drawn by the profiles reaches the goal by any acts, and the text tells a closed list
pub record TellsNever (bytes text : List ℕ) : Type 0 where
  pub question : Question
  pub is_question : IsQuestion bytes question
  pub never : ¬ IsReachable question.policy question.profiles.items (asked_by question).goal
  pub needs : List (List Need)
  pub text_is : text ≡ certificate_text question.policy.order.names (unreachable needs)
  pub closed : IsClosedList question.policy question.profiles.items (asked_by question).goal needs

-- the text tells a recorded list, of as many steps as the limit and one more: each stands for what its origin names, is covered by
-- none before it, and is met by no drawn users
pub record TellsLimit (limit : ℕ) (bytes text : List ℕ) : Type 0 where
  pub question : Question
  pub is_question : IsQuestion bytes question
  pub recorded : List Entry
  pub next : Entry
  pub text_is : text ≡ certificate_text question.policy.order.names (undecided limit recorded next)
  pub count : length recorded ≡ limit
  pub list : IsRecordedList question.policy question.profiles.items (asked_by question).goal (recorded ++ next ∷ [])

-- the text stands for one certificate of the question, and the checker accepts it: it has its property, and fails for no reason
pub record IsAcceptable (bytes text : List ℕ) : Type 0 where
  pub question : Question
  pub is_question : IsQuestion bytes question
  pub cert : Certificate
  pub stands : StandsFor question.policy.order.names text cert
  pub has : HasProperty (asked_by question) cert
  pub passes : (reason : Reason) → ¬ FailsFirst (asked_by question) cert reason

-- the sink took a text that is so for the bytes of the file, which are those that the shelf tells, if it tells any
pub record TookSuch (Is : List ℕ → List ℕ → Type 0) (told : Option (List ℕ)) (sink sink' : SinkView) : Type 0 where
  pub bytes : List ℕ
  pub are_told : AreTold told bytes
  pub text : List ℕ
  pub is : Is bytes text
  pub took : Took sink.taken sink'.taken text
