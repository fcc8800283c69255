use Rattle.arbac_laws.proofs.ConjunctLemmas.{are_seniors}
use Rattle.arbac_laws.proofs.StepLemmas.{before_assign_step, before_weak_step}
use Rattle.arbac_laws.proofs.pre_images.backward_laws.Goals as goal

pub returns-clause-assign : goal.returns-clause-assign
returns-clause-assign c = λ rules ends. before_assign_step rules (are_seniors rules.order ends)

pub returns-clause-weak : goal.returns-clause-weak
returns-clause-weak c = λ rules ends. before_weak_step rules (are_seniors rules.order ends)
