use Rattle.arbac_laws.proofs.ConjunctLemmas.{are_seniors}
use Rattle.arbac_laws.proofs.BarrierLemmas.{barriers_closed, barriers_unmet}
use Rattle.arbac_laws.proofs.barriers.barrier_laws.Goals as goal

pub returns : goal.returns
returns c = record {
  closed = λ rules ends. barriers_closed rules
      (are_seniors rules.order ends) ends;
  ceiling = λ rules profiles a b x y. (x.least b y.gains, y.least a x.gains);
  unmet = barriers_unmet;
}
