use Rattle.search_laws.proofs.SmallRowLemmas.{excluded_closed, excluded_not_found, none_before_both}
use Rattle.search_laws.proofs.rows.excluded_rows.Goals as goal

pub returns : goal.returns
returns _ = record { closed = excluded_closed; none_before = none_before_both; not_found = excluded_not_found }
