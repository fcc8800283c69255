use Rattle.search_laws.proofs.RowLemmas.{mix_found, taken_plan, found_not_closed}
use Rattle.search_laws.proofs.rows.found_rows.Goals as goal

pub returns-clause-found : goal.returns-clause-found
returns-clause-found _ = mix_found

pub returns-clause-plan : goal.returns-clause-plan
returns-clause-plan _ = taken_plan

pub returns-clause-not_recorded : goal.returns-clause-not_recorded
returns-clause-not_recorded _ = found_not_closed
