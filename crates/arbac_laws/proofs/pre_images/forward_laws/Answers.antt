use Rattle.arbac_laws.proofs.ConjunctLemmas.{are_seniors}
use Rattle.arbac_laws.proofs.StepLemmas.{assign_leads, weak_leads}
use Rattle.arbac_laws.proofs.pre_images.forward_laws.Goals as goal

pub returns-clause-assign : goal.returns-clause-assign
returns-clause-assign c =
    λ rules ends users needs ob met. let r = assign_leads rules (are_seniors rules.order ends) users needs ob met in (r.new, r.step, (r.meets, r.kept))

pub returns-clause-weak : goal.returns-clause-weak
returns-clause-weak c =
    λ rules ends users needs ob met. let r = weak_leads rules (are_seniors rules.order ends) users needs ob met in (r.new, r.step, (r.meets, r.kept))
