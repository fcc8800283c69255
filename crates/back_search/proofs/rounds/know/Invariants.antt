use Rattle.std.proofs.Common.{◌≡◌, ◌++◌, take}
use Rattle.search_laws.specs.Candidates.{needs_in}
use Rattle.search_rounds.specs.Views.{entries_of}
use Rattle.back_search.proofs.rounds.know.Given as goal

abbrev pub invariant-loop-one : goal.invariant-loop-one
invariant-loop-one l = l.gathering ≡ record {
  order = l.initial.gathering.order;
  known = l.initial.gathering.known ++ needs_in (entries_of (take l.one-index l.list));
  seen = l.initial.gathering.seen;
  kept = l.initial.gathering.kept;
}
