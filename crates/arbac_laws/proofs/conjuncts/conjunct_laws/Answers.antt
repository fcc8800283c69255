use Rattle.arbac_laws.proofs.ConjunctLemmas.{are_seniors, conjunct_met, met_conjunct}
use Rattle.arbac_laws.proofs.conjuncts.conjunct_laws.Goals as goal

pub returns : goal.returns
returns c = λ order ends set cond. let same = are_seniors order ends in (conjunct_met order same set cond, met_conjunct order same set cond)
