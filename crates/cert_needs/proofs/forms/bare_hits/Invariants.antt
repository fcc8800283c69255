use Rattle.std.proofs.Common.{◌≡◌, ◌++◌, map, take}
use Rattle.role_order.specs.Roles.{less_roles}
use Rattle.cert_needs.proofs.forms.bare_hits.Given as goal

abbrev pub invariant-loop-hit : goal.invariant-loop-hit
invariant-loop-hit l = l.hits.items ≡ l.initial.hits.items ++ map (λ hit. less_roles hit l.user.lacks) (take l.hit-index l.user.hits.now)
