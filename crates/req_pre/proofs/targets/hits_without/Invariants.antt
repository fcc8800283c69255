use Rattle.std.proofs.Common.{◌≡◌, map, take}
use Rattle.role_order.specs.Roles.{without_role}
use Rattle.req_pre.proofs.targets.hits_without.Given as goal

abbrev pub invariant-loop-hit : goal.invariant-loop-hit
invariant-loop-hit l = l.list.items ≡ map (λ hit. without_role hit l.role) (take l.hit-index l.hits)
