use Rattle.std.proofs.Common.{◌≡◌, Some}
use Rattle.std.specs.Prelude.{slice_get}
use Rattle.mark_bag.proofs.BesideLemmas.{AreBesideUpTo}
use Rattle.mark_bag.proofs.adding.own_marks.Given as goal

abbrev pub invariant-loop-item : goal.invariant-loop-item
invariant-loop-item g l = AreBesideUpTo (λ item mark. slice_get l.marks item ≡ Some mark) l.items l.own.items l.item-index
