use Rattle.search_laws.proofs.AdminLemmas.{adm_free, anyone_not_free}
use Rattle.search_laws.proofs.pruning.free_rows.Goals as goal

pub returns-clause-free : goal.returns-clause-free
returns-clause-free _ = adm_free

pub returns-clause-target : goal.returns-clause-target
returns-clause-target _ = anyone_not_free
