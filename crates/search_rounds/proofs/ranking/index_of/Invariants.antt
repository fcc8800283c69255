use Rattle.std.proofs.Common.{◌≡◌, take}
use Rattle.search_laws.specs.Candidates.{needs_in}
use Rattle.search_rounds.specs.Views.{entries_of}
use Rattle.search_rounds.proofs.ranking.index_of.Given as goal

abbrev pub invariant-loop-one : goal.invariant-loop-one
invariant-loop-one l = (l.index.order ≡ l.order) × (l.index.members ≡ needs_in (entries_of (take l.one-index l.kept)))
