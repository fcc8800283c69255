use Rattle.std.proofs.Common.{◌≡◌, ◌≤◌, map, drop}
use Rattle.arbac_policy.specs.Truth.{term_of}
use Rattle.arbac_rules.specs.declared.TheConstants.{MOST_CONJUNCTS}
use Rattle.arbac_rules.specs.Widths.{too_many, too_many_from}
use Rattle.arbac_rules.proofs.width.count_of_many.Given as goal

-- counting on from a place is counting from the first condition
abbrev pub invariant-loop-cond : goal.invariant-loop-cond
invariant-loop-cond l = record {
  rest : too_many (map term_of l.goal) ≡ too_many_from l.combinations (drop l.cond-index (map term_of l.goal));
  few : l.combinations ≤ MOST_CONJUNCTS;
}
