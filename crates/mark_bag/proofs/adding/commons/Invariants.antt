use Rattle.std.proofs.Common.{◌≡◌}
use Rattle.mark_bag.proofs.BesideLemmas.{AreBesideUpTo}
use Rattle.mark_bag.proofs.adding.commons.Given as goal

abbrev pub invariant-loop-leaf : goal.invariant-loop-leaf
invariant-loop-leaf g l = AreBesideUpTo (λ leaf mark. leaf.common ≡ mark) l.leaves l.own.items l.leaf-index
