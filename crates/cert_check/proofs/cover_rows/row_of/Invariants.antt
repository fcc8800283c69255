use Rattle.std.proofs.Common.{ℕ, ◌≡◌, ◌<◌}
use Rattle.std.specs.Prelude.{◌↔◌}
use Rattle.std.specs.Int.{bit_at}
use Rattle.cert_check.specs.CoverRows.{IsPartnerAt}
use Rattle.cert_check.proofs.cover_rows.row_of.Given as goal

abbrev pub invariant-loop-place : goal.invariant-loop-place
invariant-loop-place l = (place : ℕ) → (bit_at l.row place ≡ 1) ↔ ((place < l.place) × IsPartnerAt l.user l.others place)
