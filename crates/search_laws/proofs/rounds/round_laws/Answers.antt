use Rattle.arbac_laws.proofs.ConjunctLemmas.{are_seniors}
use Rattle.search_laws.proofs.CandidateLemmas.{goals_normal, next_normal}
use Rattle.search_laws.proofs.RoundLemmas.{one_outcome, round_covered, takes_some, walk_kept, walk_within}
use Rattle.search_laws.proofs.rounds.round_laws.Goals as goal

pub returns : goal.returns
returns c = record {
  goals = goals_normal;
  pre_images = λ rules ends. next_normal rules (are_seniors rules.order ends);
  covered = round_covered;
  kept = walk_kept;
  within = walk_within;
  further = takes_some;
  one = one_outcome;
}
