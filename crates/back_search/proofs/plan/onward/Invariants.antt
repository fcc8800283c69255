use Rattle.std.proofs.Common.{◌≡◌, get_or, map, take}
use Rattle.back_search.proofs.plan.onward.Given as goal

abbrev pub invariant-loop-user : goal.invariant-loop-user
invariant-loop-user l = l.moved.items ≡ map (λ place. get_or l.to place 0) (take l.user l.places)
