-- The outcome of the search of a question, and its certificate.
use Rattle.std.specs.Prelude.{ℕ, ◌≡◌, List, length}
use Rattle.arbac_laws.specs.Barriers.{IsCeiling, barriers}
use Rattle.search_laws.specs.Rounds.{Search}
use Rattle.cert_text.specs.Certificates.{Certificate, reachable, unreachable, undecided}
use Rattle.cert_check.specs.Asked.{Asked}
use Rattle.back_search.specs.Answers.{IsAnswer, Shows, entry_in, entries_in}
use Rattle.back_search.specs.declared.outcome.Outcome.{Outcome}
use Rattle.back_search.specs.declared.outcome.Outcome.TheVariants.{Found, Closed, Limit}
use Rattle.question_answer.specs.declared.certificates.Kind.{Kind}
use Rattle.question_answer.specs.declared.certificates.Kind.TheVariants.{Reachable, Unreachable, Undecided}

-- the search for what is asked, where nobody comes to have roles outside these
abbrev pub search_under : Asked → ℕ → List ℕ → Search
search_under asked limit ceiling = record {
  rules = asked.rules;
  profiles = asked.profiles;
  goal = asked.goal;
  barriers = barriers (length asked.rules.order.names) ceiling;
  limit = limit;
}

-- the outcome of the search under the ceiling, and it shows what it says
pub record IsOutcomeOf (asked : Asked) (limit : ℕ) (outcome : Outcome) : Type 0 where
  pub ceiling : List ℕ
  pub is_ceiling : IsCeiling asked.rules asked.profiles ceiling
  pub is_answer : IsAnswer (search_under asked limit ceiling) outcome
  pub shows : Shows (search_under asked limit ceiling) outcome

-- the certificate of the outcome of a search with this limit
abbrev pub certificate_of : ℕ → Outcome → Certificate
certificate_of limit (Found choice acts count) = reachable choice.items acts.items
certificate_of limit (Closed needs count) = unreachable needs.items
certificate_of limit (Limit recorded next) = undecided limit (entries_in recorded.items) (entry_in next)

-- the certificate says this of its question
abbrev pub IsKind : Certificate → Kind → Type 0
IsKind (reachable start acts) kind = kind ≡ Reachable
IsKind (unreachable needs) kind = kind ≡ Unreachable
IsKind (undecided limit recorded next) kind = kind ≡ Undecided
