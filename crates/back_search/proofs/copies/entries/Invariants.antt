use Rattle.std.proofs.Common.{◌≡◌, ◌++◌}
use Rattle.search_rounds.specs.Views.{entries_of}
use Rattle.back_search.specs.Answers.{entries_in}
use Rattle.back_search.proofs.copies.entries.Given as goal

abbrev pub invariant-loop-one : goal.invariant-loop-one
invariant-loop-one l = entries_in l.made.items ++ entries_of l.one-iterator.rest.items ≡ entries_of l.fn.list.items
