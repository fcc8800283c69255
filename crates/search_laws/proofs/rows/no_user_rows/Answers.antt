use Rattle.std.proofs.Common.{refl}
use Rattle.search_laws.proofs.SmallRowLemmas.{no_user_closed, no_user_not_empty}
use Rattle.search_laws.proofs.rows.no_user_rows.Goals as goal

pub returns : goal.returns
returns _ = record { barrier = refl; closed = no_user_closed; not_empty = no_user_not_empty }
