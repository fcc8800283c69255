use Rattle.search_laws.proofs.SmallRowLemmas.{choice_too_many, choice_unserved, least_choice, three_found, three_found_turned, three_not_closed}
use Rattle.search_laws.proofs.rows.least_choice_rows.Goals as goal

pub returns : goal.returns
returns _ = record {
  found = three_found;
  sorted = three_found_turned;
  least = least_choice;
  unserved = choice_unserved;
  too_many = choice_too_many;
  not_closed = three_not_closed;
}
