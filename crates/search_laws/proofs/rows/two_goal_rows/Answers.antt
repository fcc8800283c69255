use Rattle.search_laws.proofs.SmallRowLemmas.{two_goals_closed, two_goals_not_empty, two_goals_not_found}
use Rattle.search_laws.proofs.rows.two_goal_rows.Goals as goal

pub returns : goal.returns
returns _ = record { closed = two_goals_closed; not_empty = two_goals_not_empty; not_found = two_goals_not_found }
