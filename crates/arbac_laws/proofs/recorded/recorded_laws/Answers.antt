use Rattle.arbac_laws.proofs.ConjunctLemmas.{are_seniors}
use Rattle.arbac_laws.proofs.RecordedLemmas.{each_normal, not_covering, entries_different, front_recorded}
use Rattle.arbac_laws.proofs.recorded.recorded_laws.Goals as goal

pub returns : goal.returns
returns c = record {
  normal = λ rules ends. each_normal rules (are_seniors rules.order ends);
  uncovered = not_covering;
  different = entries_different;
  front = front_recorded;
}
