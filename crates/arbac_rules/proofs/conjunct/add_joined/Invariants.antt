use Rattle.std.proofs.Common.{◌≡◌, ◌++◌, take}
use Rattle.arbac_laws.specs.Conjuncts.{join_with}
use Rattle.arbac_laws.specs.Views.{need_of, needs_of}
use Rattle.arbac_rules.proofs.conjunct.add_joined.Given as goal

abbrev pub invariant-loop-other : goal.invariant-loop-other
invariant-loop-other l =
    needs_of l.out.items ≡ needs_of l.fn.out.items ++ join_with (need_of l.first) (take l.other-index (needs_of l.others))
