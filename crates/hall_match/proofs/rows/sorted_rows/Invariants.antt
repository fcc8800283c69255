use Rattle.std.proofs.Common.{ℕ, ◌≡◌, ◌<◌, length}
use Rattle.std.specs.List.Sorted.{IsNonDecreasing}
use Rattle.hall_match.specs.Rows.{lists, row_at, HaveSame}
use Rattle.hall_match.proofs.rows.sorted_rows.Given as goal

abbrev pub invariant-loop-i : goal.invariant-loop-i
invariant-loop-i l = record {
  whole : length l.rows.items ≡ length l.initial.rows.items;
  same : HaveSame (lists l.initial.rows.items) (lists l.rows.items);
  rising : (item : ℕ) → item < l.i → IsNonDecreasing (row_at (lists l.rows.items) item);
}
