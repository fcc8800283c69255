use Rattle.std.proofs.Common.{◌≡◌, ◌∷◌, ◌++◌, map, take}
use Rattle.arbac_laws.specs.Views.{need_of}
use Rattle.cert_check.specs.Rulebooks.{lists_of}
use Rattle.cert_check.proofs.goals.add_before.Given as goal

abbrev pub invariant-loop-tail : goal.invariant-loop-tail
invariant-loop-tail l = lists_of (λ users. users.items) l.all.items
    ≡ lists_of (λ users. users.items) l.fn.all.items ++ take l.tail-index (map (λ tail. need_of l.first ∷ tail) (lists_of (λ users. users.items) l.tails))
