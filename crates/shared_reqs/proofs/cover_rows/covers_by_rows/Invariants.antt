use Rattle.std.proofs.Common.{◌≡◌, length}
use Rattle.shared_reqs.specs.Shared.{needs_shared}
use Rattle.shared_reqs.specs.CoverRows.{AreRows}
use Rattle.shared_reqs.proofs.cover_rows.covers_by_rows.Given as goal

abbrev pub invariant-loop-at : goal.invariant-loop-at
invariant-loop-at l = (length l.rows ≡ 128) × AreRows (needs_shared l.users) (needs_shared l.others) l.rows l.at
