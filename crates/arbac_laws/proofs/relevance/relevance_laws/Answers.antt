use Rattle.arbac_laws.proofs.ConjunctLemmas.{are_seniors}
use Rattle.arbac_laws.proofs.RelevanceLemmas.{derived_has, derived_relevant, one_relevance}
use Rattle.arbac_laws.proofs.relevance.relevance_laws.Goals as goal

pub returns : goal.returns
returns c = record {
  needs = λ rules ends. derived_has rules (are_seniors rules.order ends);
  obligations = λ rules ends. derived_relevant rules (are_seniors rules.order ends);
  one = one_relevance;
}
