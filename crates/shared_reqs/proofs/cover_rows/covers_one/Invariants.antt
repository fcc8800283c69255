use Rattle.std.proofs.Common.{ℕ, ◌≡◌, ◌<◌, Some}
use Rattle.std.specs.Prelude.{slice_get}
use Rattle.arbac_laws.specs.Needs.{Need, CoversNeed}
use Rattle.shared_reqs.specs.Shared.{needs_shared}
use Rattle.shared_reqs.proofs.cover_rows.covers_one.Given as goal

abbrev pub invariant-loop-other : goal.invariant-loop-other
invariant-loop-other l =
    (k : ℕ) (other : Need) → k < l.other-index → slice_get (needs_shared l.others) k ≡ Some other → ¬ CoversNeed l.user other
