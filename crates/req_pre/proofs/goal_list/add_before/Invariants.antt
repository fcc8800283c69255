use Rattle.std.proofs.Common.{◌≡◌, ◌∷◌, ◌++◌, map, take}
use Rattle.arbac_laws.specs.Views.{need_of}
use Rattle.req_pre.specs.Views.{lists_of}
use Rattle.req_pre.proofs.goal_list.add_before.Given as goal

abbrev pub invariant-loop-tail : goal.invariant-loop-tail
invariant-loop-tail l = lists_of l.all.items ≡ lists_of l.fn.all.items ++ take l.tail-index (map (λ tail. need_of l.first ∷ tail) (lists_of l.tails))
