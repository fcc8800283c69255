use Rattle.std.proofs.Common.{◌≡◌, take}
use Rattle.arbac_laws.specs.Conjuncts.{join_all}
use Rattle.arbac_laws.specs.Views.{needs_of}
use Rattle.arbac_rules.proofs.conjunct.joined_lists.Given as goal

abbrev pub invariant-loop-left : goal.invariant-loop-left
invariant-loop-left l = needs_of l.all.items ≡ join_all (take l.left-index (needs_of l.lefts)) (needs_of l.rights)
