use Rattle.arbac_laws.proofs.RecordedRowLemmas.{mix_recorded}
use Rattle.arbac_laws.proofs.rows.recorded_row.Goals as goal

pub returns : goal.returns
returns _ = mix_recorded
