use Rattle.search_laws.proofs.RowLemmas.{first_candidates, second_candidates, third_candidates, fourth_candidates}
use Rattle.search_laws.proofs.rows.candidate_rows.Goals as goal

pub returns-clause-first : goal.returns-clause-first
returns-clause-first _ = first_candidates

pub returns-clause-second : goal.returns-clause-second
returns-clause-second _ = second_candidates

pub returns-clause-third : goal.returns-clause-third
returns-clause-third _ = third_candidates

pub returns-clause-fourth : goal.returns-clause-fourth
returns-clause-fourth _ = fourth_candidates
