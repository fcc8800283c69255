use Rattle.arbac_laws.proofs.ReachedRowLemmas.{mix_reached}
use Rattle.arbac_laws.proofs.rows.reached_row.Goals as goal

pub returns : goal.returns
returns _ = mix_reached
