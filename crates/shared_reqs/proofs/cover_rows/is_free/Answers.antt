use Rattle.shared_reqs.proofs.RowLemmas.{free_bit}
use Rattle.shared_reqs.proofs.cover_rows.is_free.Goals as goal

-- the mask with this bit alone tells it
pub returns : goal.returns
returns c = rw c.bit.ensures (free_bit c.args.taken c.args.place)
