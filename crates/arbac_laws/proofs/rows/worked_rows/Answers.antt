use Rattle.arbac_laws.proofs.RowLemmas.{first_obligations, first_itself, first_fresh, second_obligations, third_obligations}
use Rattle.arbac_laws.proofs.rows.worked_rows.Goals as goal

pub returns-clause-first : goal.returns-clause-first
returns-clause-first c = first_obligations

pub returns-clause-itself : goal.returns-clause-itself
returns-clause-itself c = first_itself

pub returns-clause-fresh : goal.returns-clause-fresh
returns-clause-fresh c = first_fresh

pub returns-clause-second : goal.returns-clause-second
returns-clause-second c = second_obligations

pub returns-clause-third : goal.returns-clause-third
returns-clause-third c = third_obligations
