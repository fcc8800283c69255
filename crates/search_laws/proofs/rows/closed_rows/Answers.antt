use Rattle.search_laws.proofs.RowLemmas.{mix_closed, closed_not_found}
use Rattle.search_laws.proofs.rows.closed_rows.Goals as goal

pub returns-clause-closed : goal.returns-clause-closed
returns-clause-closed _ = mix_closed

pub returns-clause-not_found : goal.returns-clause-not_found
returns-clause-not_found _ = closed_not_found
