use Rattle.std.proofs.Common.{ℕ, ◌<◌}
use Rattle.mask_match.specs.Holding.{Holds, AreHeld}
use Rattle.mask_match.proofs.placing.all_placed.Given as goal

abbrev pub invariant-loop-item : goal.invariant-loop-item
invariant-loop-item l = record {
  held : AreHeld l.rows l.holders.items;
  all : (k : ℕ) → k < l.item → Holds l.holders.items k;
  only : (k : ℕ) → Holds l.holders.items k → k < l.item;
}
