use Rattle.std.proofs.Common.{ℕ, ◌<◌}
use Rattle.shared_reqs.specs.Shared.{needs_marked}
use Rattle.shared_reqs.specs.Indexes.{CoversAt}
use Rattle.shared_reqs.proofs.index.Index.has_covering.Given as goal

abbrev pub invariant-loop-place : goal.invariant-loop-place
invariant-loop-place l = (k : ℕ) → k < l.place → ¬ CoversAt l.self.members (needs_marked l.req) l.end k
