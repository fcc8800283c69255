use Rattle.std.proofs.Common.{◌≡◌, length}
use Rattle.cert_check.specs.CoverRows.{AreRows}
use Rattle.cert_check.proofs.cover_rows.covers_few.Given as goal

abbrev pub invariant-loop-at : goal.invariant-loop-at
invariant-loop-at l = (length l.rows ≡ 128) × AreRows l.users l.others l.rows l.at
