use Rattle.std.proofs.Common.{ℕ, ◌≡◌, ◌<◌, get_or}
use Rattle.hall_match.proofs.firsts.are_different.Given as goal

abbrev pub invariant-loop-at : goal.invariant-loop-at
invariant-loop-at l = (i j : ℕ) → i < l.at → j < l.at → get_or l.list i 0 ≡ get_or l.list j 0 → i ≡ j
