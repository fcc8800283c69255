use Rattle.std.proofs.Common.{◌≡◌, map, take}
use Rattle.cert_check.specs.Rulebooks.{conjuncts_of, lists_of}
use Rattle.cert_check.proofs.rulebook.lists_for.Given as goal

abbrev pub invariant-loop-rule : goal.invariant-loop-rule
invariant-loop-rule l = lists_of (λ list. list.items) l.lists.items ≡ take l.rule-index (map (conjuncts_of l.policy) l.policy.assign)
