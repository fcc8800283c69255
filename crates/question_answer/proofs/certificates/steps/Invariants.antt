use Rattle.std.proofs.Common.{◌≡◌, ◌++◌, map}
use Rattle.back_search.specs.Answers.{entries_in}
use Rattle.cert_text.specs.Certificates.{entry_of}
use Rattle.question_answer.proofs.certificates.steps.Given as goal

-- those made so far, and behind them those that are left
abbrev pub invariant-loop-entry : goal.invariant-loop-entry
invariant-loop-entry l = map entry_of l.made.items ++ entries_in l.entry-iterator.rest.items ≡ entries_in l.fn.list.items
