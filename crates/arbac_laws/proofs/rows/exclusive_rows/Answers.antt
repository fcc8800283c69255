use Rattle.std.proofs.Common.{[], ◌∷◌}
use Rattle.arbac_policy.specs.Truth.{both, has}
use Rattle.arbac_laws.specs.Rows.{pair_policy, hits_both, c, d, one_admin}
use Rattle.arbac_laws.proofs.ConjunctLemmas.{are_seniors}
use Rattle.arbac_laws.proofs.ObligationLemmas.{list_excludes}
use Rattle.arbac_laws.proofs.PairLemmas.{four_obligations, nothing_will_do, both_closed}
use Rattle.arbac_laws.proofs.rows.exclusive_rows.Goals as goal

pub returns : goal.returns
returns _ = record {
  four = four_obligations;
  none = nothing_will_do;
  closed = both_closed;
  unreachable = list_excludes pair_policy (are_seniors pair_policy.order tt) one_admin (both (has c) (has d) ∷ [])
      ((hits_both c d ∷ []) ∷ []) both_closed;
}
