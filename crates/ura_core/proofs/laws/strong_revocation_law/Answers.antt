use Rattle.role_order.specs.Roles.{less_roles}
use Rattle.arbac_policy.specs.Truth.{user}
use Rattle.arbac_policy.specs.Holders.{falling}
use Rattle.ura_core.proofs.StrongLemmas.{weak_steps_leave, strong_leaves}
use Rattle.ura_core.proofs.laws.strong_revocation_law.Goals as goal

-- the weak steps take away the roles that fall, and those are the ones at or above the role
pub returns : goal.returns
returns c = λ rules old new admin target role ends step. (
  less_roles step.set (falling user rules.order step.set role),
  weak_steps_leave user rules old old admin target (falling user rules.order step.set role) step.set new step.set_is step.steps,
  strong_leaves rules step.set role ends,
)
