use Rattle.search_laws.proofs.SmallRowLemmas.{two_acts_found, two_acts_not_closed, two_acts_not_turned, two_acts_plan}
use Rattle.search_laws.proofs.rows.two_act_rows.Goals as goal

pub returns : goal.returns
returns _ = record { found = two_acts_found; plan = two_acts_plan; turned = two_acts_not_turned; not_closed = two_acts_not_closed }
