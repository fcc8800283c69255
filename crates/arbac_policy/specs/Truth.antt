-- Membership, and when a condition is true of a set.
use Rattle.std.specs.Prelude.{ℕ, ◌<◌, List, ◌⊎◌}
use Rattle.role_order.specs.Roles.{IsIn}
use Rattle.role_order.specs.Graph.{Leads}
use Rattle.arbac_policy.specs.declared.cond.Cond.{Cond, fold-Cond}
use Rattle.arbac_policy.specs.declared.cond.Cond.TheOpen.{Cond-F, Any, Has, Lacks, And, Or}
use Rattle.arbac_policy.specs.declared.holder.On.{On}
use Rattle.arbac_policy.specs.declared.holder.On.TheVariants.{User, Permission}

-- a condition as plain data
pub data Term : Type 0 where
  any : Term
  has : ℕ → Term
  lacks : ℕ → Term
  both : Term → Term → Term
  either : Term → Term → Term

-- one level of a condition, its parts as terms
abbrev pub term_level : Cond-F Term → Term
term_level Any = any
term_level (Has role) = has role
term_level (Lacks role) = lacks role
term_level (And left right) = both left right
term_level (Or left right) = either left right

-- the condition, its boxes left out
abbrev pub term_of : Cond → Term
term_of cond = fold-Cond Term term_level cond

-- who holds roles: a user or a permission
abbrev pub Holder : Type 0
Holder = On

-- a holder who is a user
abbrev pub user : Holder
user = User

-- a holder that is a permission
abbrev pub permission : Holder
permission = Permission

-- a user's set is a member of a role where one of its roles is >= it
abbrev pub IsMember : List (ℕ × ℕ) → List ℕ → ℕ → Type 0
IsMember edges set role = (held : ℕ) × IsIn set held × Leads edges held role

-- a permission's set satisfies a role where one of its roles is <= it
abbrev pub IsPermMember : List (ℕ × ℕ) → List ℕ → ℕ → Type 0
IsPermMember edges set role = (held : ℕ) × IsIn set held × Leads edges role held

-- membership of users, or of permissions
abbrev pub IsMemberOf : Holder → List (ℕ × ℕ) → List ℕ → ℕ → Type 0
IsMemberOf User = IsMember
IsMemberOf Permission = IsPermMember

-- the condition is true of the set
abbrev pub Satisfies : Holder → List (ℕ × ℕ) → List ℕ → Term → Type 0
Satisfies holder edges set any = Unit {0}
Satisfies holder edges set (has role) = IsMemberOf holder edges set role
Satisfies holder edges set (lacks role) = ¬ IsMemberOf holder edges set role
Satisfies holder edges set (both left right) = Satisfies holder edges set left × Satisfies holder edges set right
Satisfies holder edges set (either left right) = Satisfies holder edges set left ⊎ Satisfies holder edges set right

-- each role of the condition is below the count
abbrev pub IsKnown : ℕ → Term → Type 0
IsKnown count any = Unit {0}
IsKnown count (has role) = role < count
IsKnown count (lacks role) = role < count
IsKnown count (both left right) = IsKnown count left × IsKnown count right
IsKnown count (either left right) = IsKnown count left × IsKnown count right
