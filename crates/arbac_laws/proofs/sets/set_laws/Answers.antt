use Rattle.arbac_laws.proofs.ConjunctLemmas.{are_seniors}
use Rattle.arbac_laws.proofs.SetsLemmas.{conjunct_sets, goal_sets, sets_kept}
use Rattle.arbac_laws.proofs.sets.set_laws.Goals as goal

pub returns : goal.returns
returns c = record { conjuncts = conjunct_sets; goals = goal_sets; pre_images = λ rules ends. sets_kept rules (are_seniors rules.order ends) }
