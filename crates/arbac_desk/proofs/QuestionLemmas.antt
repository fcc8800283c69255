-- Question documents: what was fetched of one, and what its certificate shows.
use Rattle.std.proofs.Common.{ℕ, ◌≡◌, ◌+◌, List, take}
use Rattle.arbac_policy.specs.Goals.{IsReachable}
use Rattle.arbac_laws.specs.Needs.{Need}
use Rattle.arbac_laws.specs.Closed.{IsClosedList}
use Rattle.cert_text.specs.Certificates.{Certificate, reachable, unreachable, undecided}
use Rattle.cert_check.specs.Asked.{Asked, HasProperty}
use Rattle.desk_texts.specs.Faults.{question_fault, too_long}
use Rattle.desk_texts.specs.Lines.{malformed_line}
use Rattle.arbac_desk.specs.declared.TheConstants.{MOST_QUESTION_BYTES}
use Rattle.arbac_desk.specs.Questions.{IsNoQuestion, IsMalformedQuestion, IsQuestionText, Shows}
use Rattle.arbac_desk.proofs.FetchLemmas.{all_malformed, no_text}

-- what is told as malformed of the bytes that were fetched is so of all that the file holds
pub question_malformed : (name all bytes text : List ℕ) → bytes ≡ take (MOST_QUESTION_BYTES + 1) all → IsMalformedQuestion name bytes text
    → IsMalformedQuestion name all text
question_malformed name all bytes text e h =
    all_malformed MOST_QUESTION_BYTES (malformed_line name too_long) IsNoQuestion (λ fault. malformed_line name (question_fault fault)) all bytes text e h

-- and then the bytes are no question
pub no_question_text : (name bytes text : List ℕ) → IsMalformedQuestion name bytes text → IsQuestionText bytes → ⊥
no_question_text name bytes text h is =
    no_text MOST_QUESTION_BYTES (malformed_line name too_long) IsNoQuestion (λ fault. malformed_line name (question_fault fault)) bytes text
    (IsQuestionText bytes) (λ also. also.0) (λ fault none also. none.none also.1 also.2) h is

-- a certificate with its property shows how the question stands, since a closed list leaves no way to the goal
pub shown : (asked : Asked) (cert : Certificate)
    → ((list : List (List Need)) → IsClosedList asked.rules asked.profiles asked.goal list → IsReachable asked.rules asked.profiles asked.goal → ⊥)
    → HasProperty asked cert → Shows asked cert
shown asked (reachable start acts) closed plan = record {
  start = plan.users;
  drawn = record { choice = start; drawn = plan.drawn; are_users = plan.are_users };
  acts = acts;
  end = plan.end;
  run = plan.run;
  met = plan.met;
}
shown asked (unreachable needs) closed has = closed needs has
shown asked (undecided limit recorded next) closed has = tt
