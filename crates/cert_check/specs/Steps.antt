-- What is wrong with a step of a recorded list.
use Rattle.std.specs.Prelude.{◌≡◌, List, length}
use Rattle.list_words.specs.Lists.{IsFirst}
use Rattle.arbac_laws.specs.Needs.{Covers, IsCovered}
use Rattle.arbac_laws.specs.Recorded.{Entry}
use Rattle.arbac_laws.specs.Serving.{ServesLeast}
use Rattle.cert_check.specs.declared.judgement.Why.{Why}
use Rattle.cert_check.specs.declared.judgement.Why.TheVariants.{NotDrawn, StepRefused, GoalNotMet, GoalUncovered, Open, StartsMet, NotDerived}
use Rattle.cert_check.specs.declared.judgement.Why.TheVariants.{Repeated, WrongCount}
use Rattle.cert_check.specs.Asked.{Asked, IsDerivedEntry, needs_in}

-- behind these entries the entry isn't derived; or it is, and the earlier one is the first that covers it; or it is new too,
-- and these are the least users who meet it
abbrev pub IsStepFault : Asked → List Entry → Entry → Why → Type 0
IsStepFault asked earlier entry (NotDerived place) = (place ≡ length earlier) × ¬ IsDerivedEntry asked earlier entry
IsStepFault asked earlier entry (Repeated place one) =
    (place ≡ length earlier) × IsDerivedEntry asked earlier entry × IsFirst (λ needs. Covers needs entry.needs) (needs_in earlier) one
IsStepFault asked earlier entry (StartsMet place choice) =
    (place ≡ length earlier) × IsDerivedEntry asked earlier entry × (¬ IsCovered (needs_in earlier) entry.needs)
    × ServesLeast asked.profiles entry.needs choice.items
IsStepFault asked earlier entry (NotDrawn user) = ⊥
IsStepFault asked earlier entry (StepRefused place part) = ⊥
IsStepFault asked earlier entry GoalNotMet = ⊥
IsStepFault asked earlier entry (GoalUncovered goal) = ⊥
IsStepFault asked earlier entry (Open need obligation) = ⊥
IsStepFault asked earlier entry (WrongCount count) = ⊥
