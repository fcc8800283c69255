use Rattle.std.proofs.Common.{ℕ, ◌≡◌, take}
use Rattle.std.specs.List.{list_any}
use Rattle.role_order.specs.Roles.{has_role}
use Rattle.arbac_laws.specs.Views.{need_of}
use Rattle.cert_check.specs.Passing.{is_of_use, given_by}
use Rattle.cert_check.proofs.useful.useful_roles.Given as goal

abbrev pub invariant-loop-user : goal.invariant-loop-user
invariant-loop-user l =
    (role : ℕ) → has_role l.all role ≡ list_any (λ user. is_of_use (given_by l.change) role (need_of user)) (take l.user-index l.users)
