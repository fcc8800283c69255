use Rattle.hall_match.proofs.LawLemmas.{deficient}
use Rattle.hall_match.proofs.laws.deficient_law.Goals as goal

pub returns : goal.returns
returns c = deficient
