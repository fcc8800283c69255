use Rattle.ura_core.proofs.CriterionLemmas.{some_told}
use Rattle.ura_core.proofs.criterion.some_met.Goals as goal

pub returns : goal.returns
returns g c =
    rw c.is_some.ensures (some_told
    (g.C.Criterion.met c.args.criterion.now) c.args.items.now c.first_met.result c.first_met.ensures.found c.first_met.ensures.none)
