-- What profiles bring and rules give, set by set.
use Rattle.std.specs.Prelude.{ℕ, ◌≡◌, true, List, Some}
use Rattle.role_order.specs.Roles.{IsIn, IsWithin}
use Rattle.role_order.specs.Graph.{Graph}
use Rattle.role_order.specs.Ranges.{IsInRange}
use Rattle.arbac_policy.specs.declared.profile.Profile.{Profile}
use Rattle.arbac_policy.specs.declared.rule.CanAssign.{CanAssign}
use Rattle.arbac_policy.specs.Rules.{Rules}
use Rattle.arbac_laws.specs.Barriers.{may_give}
use Rattle.rule_prune.specs.Steps.{ByEach}

-- the profile brings its roles, unless its count is 0
abbrev pub Brings : Profile → List ℕ → List ℕ → Type 0
Brings profile old new = ¬ (profile.most ≡ Some 0) → IsWithin profile.set new

-- the rule gives the roles of its range, where it may give over the old set
abbrev pub Gives : Graph → CanAssign → List ℕ → List ℕ → Type 0
Gives order rule old new = may_give order old rule ≡ true → (role : ℕ) → IsInRange order rule.range role → IsIn new role

-- each rule of `can_assign` gives its roles
abbrev pub GiveAll : Rules → List ℕ → List ℕ → Type 0
GiveAll rules old new = ByEach (Gives rules.order) rules.assign old new
