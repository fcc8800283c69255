use Rattle.search_laws.proofs.SmallRowLemmas.{own_gift_found, own_gift_no_shorter, own_gift_not_closed, own_gift_plan}
use Rattle.search_laws.proofs.rows.own_gift_rows.Goals as goal

pub returns : goal.returns
returns _ = record { found = own_gift_found; plan = own_gift_plan; shorter = own_gift_no_shorter; not_closed = own_gift_not_closed }
