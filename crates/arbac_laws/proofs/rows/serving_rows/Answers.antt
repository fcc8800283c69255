use Rattle.std.proofs.Common.{refl}
use Rattle.arbac_laws.proofs.ServingRowLemmas.{adm_served, c_not_served, served_once, not_served_twice, first_least, second_not_least, one_pair}
use Rattle.arbac_laws.proofs.ServingRowLemmas.{not_no_pairs, two_unserved, one_not_unserved}
use Rattle.arbac_laws.proofs.rows.serving_rows.Goals as goal

pub returns : goal.returns
returns _ = record {
  served = adm_served;
  not_served = c_not_served;
  once = served_once;
  not_twice = not_served_twice;
  least = first_least;
  not_least = second_not_least;
  limited = refl;
  pairs = one_pair;
  no_pairs = not_no_pairs;
  unserved = two_unserved;
  not_unserved = one_not_unserved;
}
