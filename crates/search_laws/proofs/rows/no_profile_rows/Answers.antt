use Rattle.std.proofs.Common.{refl}
use Rattle.search_laws.proofs.SmallRowLemmas.{no_profile_closed, no_profile_not_recorded}
use Rattle.search_laws.proofs.rows.no_profile_rows.Goals as goal

pub returns : goal.returns
returns _ = record { barrier = refl; closed = no_profile_closed; not_recorded = no_profile_not_recorded }
