use Rattle.std.proofs.Common.{◌≡◌, length}
use Rattle.hall_match.specs.Chains.{AreChains}
use Rattle.hall_match.proofs.users.users_from.Given as goal

abbrev pub invariant-loop-item : goal.invariant-loop-item
invariant-loop-item l = record {
  places : length l.last.items ≡ l.places;
  items : length l.before.items ≡ length l.given;
  chains : AreChains l.given l.low l.item l.last.items l.before.items;
}
