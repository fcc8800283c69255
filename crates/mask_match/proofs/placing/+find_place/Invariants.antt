use Rattle.std.proofs.Common.{◌≡◌, ◌≤◌, ◌-◌, ◌^◌}
use Rattle.mask_match.specs.Holding.{AreShut}
use Rattle.mask_match.proofs.placing.+find_place.Given as goal

abbrev pub decreases-find_place : goal.decreases-find_place
decreases-find_place l = 2 ^ 128 - l.seen.now

abbrev pub invariant-loop-place : goal.invariant-loop-place
invariant-loop-place l = record {
  same : l.holders.items ≡ l.fn.holders.items;
  more : l.fn.seen ≤ l.seen;
  shut : AreShut l.rows l.fn.holders.items l.fn.seen l.seen;
}

abbrev pub decreases-loop-place : goal.decreases-loop-place
decreases-loop-place l = 2 ^ 128 - l.seen
