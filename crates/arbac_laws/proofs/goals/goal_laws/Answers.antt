use Rattle.arbac_laws.proofs.ConjunctLemmas.{are_seniors}
use Rattle.arbac_laws.proofs.GoalLemmas.{goal_both}
use Rattle.arbac_laws.proofs.goals.goal_laws.Goals as goal

pub returns : goal.returns
returns c = λ order ends. goal_both order (are_seniors order ends)
