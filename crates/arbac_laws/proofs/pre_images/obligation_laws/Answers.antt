use Rattle.arbac_laws.proofs.ConjunctLemmas.{are_seniors}
use Rattle.arbac_laws.proofs.ObligationLemmas.{listed_leads, assign_was_met, weak_was_met}
use Rattle.arbac_laws.proofs.pre_images.obligation_laws.Goals as goal

pub returns : goal.returns
returns c = record {
  forward = λ rules ends. listed_leads rules (are_seniors rules.order ends);
  assign = λ rules ends. assign_was_met rules (are_seniors rules.order ends);
  weak = λ rules ends. weak_was_met rules (are_seniors rules.order ends);
}
