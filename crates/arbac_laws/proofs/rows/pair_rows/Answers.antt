use Rattle.arbac_laws.proofs.PairLemmas.{d_barred, d_barred_second, c_barred, none_barred}
use Rattle.arbac_laws.proofs.rows.pair_rows.Goals as goal

pub returns : goal.returns
returns _ = record { barred = d_barred; second = d_barred_second; none = c_barred; other = none_barred }
