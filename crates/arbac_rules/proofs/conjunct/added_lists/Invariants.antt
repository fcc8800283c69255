use Rattle.std.proofs.Common.{◌≡◌, ◌++◌}
use Rattle.arbac_rules.proofs.conjunct.added_lists.Given as goal

abbrev pub invariant-loop-right : goal.invariant-loop-right
invariant-loop-right l = l.all.items ≡ l.fn.lefts.items ++ l.yielded
