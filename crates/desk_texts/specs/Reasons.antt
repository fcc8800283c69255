-- The texts of what the checker of certificates answers.
use Rattle.std.specs.Prelude.{ℕ, List, [], ◌∷◌, ◌++◌, codes}
use Rattle.std.specs.Fmt.{decimal}
use Rattle.std.specs.List.{flat_map}
use Rattle.cert_text.specs.Certificates.{Certificate, reachable, unreachable, undecided}
use Rattle.cert_check.specs.Asked.{Reason, not_drawn, step_refused, goal_not_met, goal_uncovered, left_open, starts_met}
use Rattle.cert_check.specs.Asked.{not_derived, repeated, wrong_count}
use Rattle.desk_texts.specs.Parts.{part_text}

-- what the certificate says of the question
abbrev pub kind_word : Certificate → List ℕ
kind_word (reachable start acts) = codes "reachable"
kind_word (unreachable needs) = codes "unreachable"
kind_word (undecided limit recorded next) = codes "undecided"

-- a profile that isn't the first of its choice
abbrev pub next_profile : ℕ → List ℕ
next_profile profile = codes "," ++ decimal profile

-- the profiles of a choice, joined by commas, and `-` for none
abbrev pub choice_text : List ℕ → List ℕ
choice_text [] = codes "-"
choice_text (first ∷ others) = decimal first ++ flat_map next_profile others

-- `NotDrawn user 2`, `StepRefused act 0 NoRange PL1`, `StartsMet need 1 choice 0,0,3` and so on
unfoldable pub reason_text : List (List ℕ) → Reason → List ℕ
reason_text names (not_drawn user) = codes "NotDrawn user " ++ decimal user
reason_text names (step_refused place part) = codes "StepRefused act " ++ decimal place ++ codes " " ++ part_text names part
reason_text names goal_not_met = codes "GoalNotMet"
reason_text names (goal_uncovered goal) = codes "GoalUncovered goal " ++ decimal goal
reason_text names (left_open need obligation) = codes "Open need " ++ decimal need ++ codes " obligation " ++ decimal obligation
reason_text names (starts_met need choice) = codes "StartsMet need " ++ decimal need ++ codes " choice " ++ choice_text choice
reason_text names (not_derived need) = codes "NotDerived need " ++ decimal need
reason_text names (repeated need earlier) = codes "Repeated need " ++ decimal need ++ codes " by " ++ decimal earlier
reason_text names (wrong_count count) = codes "WrongCount " ++ decimal count
