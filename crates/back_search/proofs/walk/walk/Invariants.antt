use Rattle.std.proofs.Common.{◌≡◌, ◌++◌}
use Rattle.search_laws.specs.Rounds.{Search, Walks, goes_on}
use Rattle.search_rounds.specs.Views.{entries_of, HaveOwnMarks}
use Rattle.back_search.specs.Stops.{Records}
use Rattle.back_search.proofs.walk.walk.Given as goal

abbrev pub invariant-loop-one : goal.invariant-loop-one
invariant-loop-one l = record {
  left : l.yielded ++ l.one-iterator.rest.items ≡ l.fn.list.items;
  walks : (s : Search) → s.profiles ≡ l.profiles → s.limit ≡ l.limit
      → Walks s (entries_of l.initial.recorded.items) (entries_of l.yielded) (goes_on (entries_of l.recorded.items));
  records : Records l.initial.gathering l.gathering (entries_of l.initial.recorded.items) (entries_of l.recorded.items);
  marks : HaveOwnMarks l.initial.gathering.order l.recorded.items;
}
