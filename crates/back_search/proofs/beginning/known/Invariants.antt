use Rattle.std.proofs.Common.{◌≡◌, [], take}
use Rattle.back_search.proofs.beginning.known.Given as goal

abbrev pub invariant-loop-barrier : goal.invariant-loop-barrier
invariant-loop-barrier l = l.gathering ≡ record { order = l.order; known = take l.barrier-index l.barriers; seen = []; kept = [] }
