use Rattle.std.proofs.Common.{◌≡◌, [], replicate}
use Rattle.hall_match.specs.Rows.{lists}
use Rattle.hall_match.proofs.rows.empty_rows.Given as goal

abbrev pub invariant-loop : goal.invariant-loop
invariant-loop l = lists l.rows.items ≡ replicate l.counter []
