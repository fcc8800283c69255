use Rattle.arbac_laws.proofs.ConjunctLemmas.{are_seniors}
use Rattle.arbac_laws.proofs.ClosedLemmas.{not_reachable}
use Rattle.arbac_laws.proofs.ObligationLemmas.{list_excludes}
use Rattle.arbac_laws.proofs.closed.closed_laws.Goals as goal

pub returns : goal.returns
returns c = record {
  list = λ rules ends. list_excludes rules (are_seniors rules.order ends);
  parts = λ rules ends. not_reachable rules (are_seniors rules.order ends);
}
