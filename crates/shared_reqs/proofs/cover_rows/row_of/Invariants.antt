use Rattle.std.proofs.Common.{ℕ, ◌≡◌, ◌<◌}
use Rattle.std.specs.Prelude.{◌↔◌}
use Rattle.std.specs.Int.{bit_at}
use Rattle.shared_reqs.specs.Shared.{needs_shared}
use Rattle.shared_reqs.specs.CoverRows.{CoversThere}
use Rattle.shared_reqs.proofs.cover_rows.row_of.Given as goal

abbrev pub invariant-loop-place : goal.invariant-loop-place
invariant-loop-place l = (place : ℕ) → (bit_at l.row place ≡ 1) ↔ ((place < l.place) × CoversThere l.user (needs_shared l.others) place)
