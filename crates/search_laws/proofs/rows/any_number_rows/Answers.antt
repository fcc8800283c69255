use Rattle.std.proofs.Common.{[], ◌∷◌, refl}
use Rattle.arbac_laws.specs.Rows.{hits}
use Rattle.search_laws.specs.Rows.{a}
use Rattle.search_laws.proofs.SmallRowLemmas.{any_number_found, any_number_not_closed, goal_no_act}
use Rattle.search_laws.proofs.rows.any_number_rows.Goals as goal

pub returns : goal.returns
returns _ = record {
  found = any_number_found;
  plan = λ to. (0, refl);
  longer = goal_no_act (hits a ∷ []);
  not_closed = any_number_not_closed;
}
