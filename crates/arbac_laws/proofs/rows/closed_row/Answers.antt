use Rattle.std.proofs.Common.{[], ◌∷◌}
use Rattle.arbac_policy.specs.Truth.{has}
use Rattle.arbac_laws.specs.Rows.{mix, c, one_admin, mix_needs}
use Rattle.arbac_laws.proofs.ConjunctLemmas.{are_seniors}
use Rattle.arbac_laws.proofs.ObligationLemmas.{list_excludes}
use Rattle.arbac_laws.proofs.RowLemmas.{mix_closed}
use Rattle.arbac_laws.proofs.rows.closed_row.Goals as goal

pub returns : goal.returns
returns _ = record { closed = mix_closed; unreachable = list_excludes mix (are_seniors mix.order tt) one_admin (has c ∷ []) mix_needs mix_closed }
