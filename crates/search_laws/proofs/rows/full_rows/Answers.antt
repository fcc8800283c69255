use Rattle.search_laws.proofs.RowLemmas.{mix_full}
use Rattle.search_laws.proofs.rows.full_rows.Goals as goal

pub returns-clause-full : goal.returns-clause-full
returns-clause-full _ = mix_full
