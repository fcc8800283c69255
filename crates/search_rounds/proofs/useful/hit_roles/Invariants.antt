use Rattle.std.proofs.Common.{ℕ, ◌≡◌, take}
use Rattle.std.specs.List.{list_any}
use Rattle.role_order.specs.Roles.{has_role}
use Rattle.search_rounds.proofs.useful.hit_roles.Given as goal

abbrev pub invariant-loop-hit : goal.invariant-loop-hit
invariant-loop-hit l = (role : ℕ) → has_role l.all role ≡ list_any (λ hit. has_role hit role) (take l.hit-index l.user.hits)
