use Rattle.std.proofs.Common.{◌≡◌, not, take}
use Rattle.std.specs.Prelude.{filter}
use Rattle.role_order.specs.Roles.{has_role}
use Rattle.req_pre.proofs.targets.other_hits.Given as goal

abbrev pub invariant-loop-hit : goal.invariant-loop-hit
invariant-loop-hit l = l.list.items ≡ filter (λ hit. not (has_role hit l.role)) (take l.hit-index l.hits)
