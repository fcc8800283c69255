use Rattle.std.proofs.Common.{ℕ, ◌≡◌, ◌<◌, List, Some}
use Rattle.std.specs.Prelude.{slice_get}
use Rattle.arbac_laws.specs.Needs.{Need, Covers}
use Rattle.cert_needs.specs.Wanted.{needs_wanted}
use Rattle.cert_check.proofs.index.Index.first_covering.Given as goal

abbrev pub invariant-loop-place : goal.invariant-loop-place
invariant-loop-place l = (k : ℕ) (needs : List Need) → k < l.place → slice_get l.self.members k ≡ Some needs → ¬ Covers needs (needs_wanted l.raw)
