use Rattle.std.proofs.Common.{ℕ, ◌≡◌, ◌<◌, length, get_or}
use Rattle.back_search.proofs.plan.own_places.Given as goal

abbrev pub invariant-loop-user : goal.invariant-loop-user
invariant-loop-user l = record {
  long : length l.places.items ≡ l.user;
  own : (k : ℕ) → k < l.user → get_or l.places.items k 0 ≡ k;
}
