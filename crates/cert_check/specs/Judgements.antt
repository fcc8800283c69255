-- What the checker answers.
use Rattle.std.specs.Prelude.{◌≡◌, map}
use Rattle.arbac_policy.specs.Truth.{term_of}
use Rattle.question_text.specs.declared.question.Question.{Question}
use Rattle.cert_check.specs.declared.judgement.Judgement.{Judgement}
use Rattle.cert_check.specs.declared.judgement.Judgement.TheVariants.{Accepted, Refused}
use Rattle.cert_check.specs.Asked.{Asked, Reason, reason_of}

-- what the question asks
abbrev pub asked_by : Question → Asked
asked_by question = record { rules = question.policy; profiles = question.profiles.items; goal = map term_of question.goal.items }

-- what holds where the certificate is accepted
abbrev pub IfAccepted : Judgement → Type 0 → Type 0
IfAccepted Accepted P = P
IfAccepted (Refused why) P = Unit {0}

-- what holds of the reason where it is refused
abbrev pub IfRefused : Judgement → (Reason → Type 0) → Type 0
IfRefused Accepted P = Unit {0}
IfRefused (Refused why) P = P (reason_of why)

-- the judgement is a refusal for this reason
abbrev pub IsRefusal : Judgement → Reason → Type 0
IsRefusal Accepted reason = ⊥
IsRefusal (Refused why) reason = reason_of why ≡ reason
