use Rattle.std.proofs.Common.{◌≡◌, ◌++◌}
use Rattle.search_laws.specs.Candidates.{needs_in}
use Rattle.search_rounds.specs.Views.{entries_of}
use Rattle.back_search.proofs.copies.add_needs.Given as goal

abbrev pub invariant-loop-one : goal.invariant-loop-one
invariant-loop-one l = l.needs.items ++ needs_in (entries_of l.one-iterator.rest.items) ≡ l.initial.needs.items ++ needs_in (entries_of l.fn.list.items)
