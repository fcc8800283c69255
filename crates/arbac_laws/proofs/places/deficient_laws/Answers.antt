use Rattle.arbac_laws.specs.Needs.{MeetsNeed, CoversNeed}
use Rattle.list_words.proofs.DeficientLemmas.{deficient}
use Rattle.arbac_laws.proofs.places.deficient_laws.Goals as goal

pub returns : goal.returns
returns c = record { meets = λ users needs. deficient MeetsNeed needs users; covers = deficient CoversNeed }
