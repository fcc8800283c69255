-- What administers users, and what permissions.
use Rattle.std.specs.Prelude.{ℕ, List, [], filter}
use Rattle.role_order.specs.Roles.{has_role, with_role}
use Rattle.role_order.specs.Graph.{Graph}
use Rattle.role_order.specs.Reach.{seniors_of, juniors_of}
use Rattle.arbac_policy.specs.declared.rule.CanAssign.{CanAssign}
use Rattle.arbac_policy.specs.declared.rule.CanRevoke.{CanRevoke}
use Rattle.arbac_policy.specs.declared.holder.On.TheVariants.{User, Permission}
use Rattle.arbac_policy.specs.Truth.{Holder}
use Rattle.arbac_policy.specs.Rules.{Rules}

-- the rules that give roles to such holders
abbrev pub assign_rules : Holder → Rules → List CanAssign
assign_rules User rules = rules.assign
assign_rules Permission rules = rules.assignp

-- the rules that take roles from such holders
abbrev pub revoke_rules : Holder → Rules → List CanRevoke
revoke_rules User rules = rules.revoke
revoke_rules Permission rules = rules.revokep

-- no exclusive pair counts for permissions
abbrev pub pairs_of : Holder → Rules → List (ℕ × ℕ)
pairs_of User rules = rules.exclusive
pairs_of Permission rules = []

-- the roles that a strong revocation of the role reaches: upwards for users, downwards for permissions
abbrev pub reach_of : Holder → Graph → ℕ → List ℕ
reach_of User order role = seniors_of order role
reach_of Permission order role = juniors_of order role

-- the role, and the held roles in its reach, by rising number
abbrev pub falling : Holder → Graph → List ℕ → ℕ → List ℕ
falling holder order set role = with_role (filter (has_role (reach_of holder order role)) set) role

-- where the administrator stands, once the targets' list is this one: users administer one another
abbrev pub admins_of : Holder → List (List ℕ) → List (List ℕ) → List (List ℕ)
admins_of User users now = now
admins_of Permission users now = users
