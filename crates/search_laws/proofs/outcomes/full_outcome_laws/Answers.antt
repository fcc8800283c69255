use Rattle.arbac_laws.proofs.ConjunctLemmas.{are_seniors}
use Rattle.search_laws.proofs.OutcomeLemmas.{full_limit, full_list}
use Rattle.search_laws.proofs.outcomes.full_outcome_laws.Goals as goal

pub returns : goal.returns
returns c = record { limit = full_limit; list = λ s ends. full_list s (are_seniors s.rules.order ends) }
