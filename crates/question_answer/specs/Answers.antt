-- The certificate of a question, and its text.
use Rattle.std.specs.Prelude.{ℕ, ◌≡◌, ◌++◌, List, length}
use Rattle.arbac_laws.specs.Barriers.{IsCeiling}
use Rattle.arbac_laws.specs.Recorded.{Entry}
use Rattle.arbac_laws.specs.Serving.{ServesLeast}
use Rattle.search_laws.specs.Candidates.{needs_in}
use Rattle.search_laws.specs.Plans.{Plans}
use Rattle.search_laws.specs.Rounds.{Search, IsOutcome, found, closed, full}
use Rattle.cert_text.specs.Certificates.{Certificate, reachable, unreachable, undecided, IsCertificate}
use Rattle.cert_text.specs.Drafts.{StandsFor}
use Rattle.cert_text.specs.Texts.{certificate_text}
use Rattle.cert_check.specs.Asked.{Asked, HasProperty}
use Rattle.question_answer.specs.declared.certificates.Kind.{Kind}
use Rattle.question_answer.specs.Outcomes.{search_under, IsKind}

-- the certificate tells how the search ends: the least choice of users who meet what was found, and the plan from where they
-- stand; the barriers and what was recorded; or what was recorded, with its origins, up to the limit, and one more
abbrev pub TellsEnd : Search → Certificate → Type 0
TellsEnd s (reachable start acts) = (recorded : List Entry) × (entry : Entry) × IsOutcome s (found recorded entry)
    × ServesLeast s.profiles entry.needs start × Plans s.rules recorded entry (λ user. user) acts
TellsEnd s (unreachable needs) = (recorded : List Entry) × IsOutcome s (closed recorded) × (needs ≡ s.barriers ++ needs_in recorded)
TellsEnd s (undecided limit recorded next) = IsOutcome s (full recorded next) × (limit ≡ s.limit)

-- the certificate of what is asked, searched with this limit under the ceiling
pub record IsAnswerTo (asked : Asked) (limit : ℕ) (cert : Certificate) : Type 0 where
  pub ceiling : List ℕ
  pub is_ceiling : IsCeiling asked.rules asked.profiles ceiling
  pub tells : TellsEnd (search_under asked limit ceiling) cert

-- the text is that of the certificate of what is asked, and stands for it alone; the certificate says this, and shows it
pub record IsAnswerText (asked : Asked) (limit : ℕ) (kind : Kind) (text : List ℕ) : Type 0 where
  pub cert : Certificate
  pub answers : IsAnswerTo asked limit cert
  pub has : HasProperty asked cert
  pub written : IsCertificate (length asked.rules.order.names) cert
  pub says : IsKind cert kind
  pub text_is : text ≡ certificate_text asked.rules.order.names cert
  pub stands : StandsFor asked.rules.order.names text cert
