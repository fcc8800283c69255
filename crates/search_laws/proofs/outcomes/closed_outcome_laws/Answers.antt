use Rattle.std.proofs.Common.{◌++◌}
use Rattle.arbac_laws.proofs.ConjunctLemmas.{are_seniors}
use Rattle.arbac_laws.proofs.ObligationLemmas.{list_excludes}
use Rattle.search_laws.specs.Candidates.{needs_in}
use Rattle.search_laws.proofs.OutcomeLemmas.{closed_list}
use Rattle.search_laws.proofs.outcomes.closed_outcome_laws.Goals as goal

-- a closed list excludes each run to the goal
pub returns : goal.returns
returns c = record {
  list = λ s ends. closed_list s (are_seniors s.rules.order ends);
  unreachable = λ s ends barriers unmet recorded outcome.
      let same = are_seniors s.rules.order ends in
      list_excludes s.rules same s.profiles s.goal (s.barriers ++ needs_in recorded) (closed_list s same barriers unmet recorded outcome);
}
