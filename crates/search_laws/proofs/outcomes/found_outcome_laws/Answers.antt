use Rattle.arbac_laws.proofs.ConjunctLemmas.{are_seniors}
use Rattle.search_laws.proofs.PlanLemmas.{found_plan, found_reachable, found_runs, one_plan}
use Rattle.search_laws.proofs.outcomes.found_outcome_laws.Goals as goal

pub returns : goal.returns
returns c = record {
  plan = λ s ends. found_plan s (are_seniors s.rules.order ends);
  one = λ s recorded entry to first second f g. one_plan s.rules recorded first second entry to f g;
  run = λ s ends. found_runs s (are_seniors s.rules.order ends);
  reachable = λ s ends. found_reachable s (are_seniors s.rules.order ends);
}
