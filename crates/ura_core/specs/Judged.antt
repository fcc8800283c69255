-- What an administrator may do, by the sets of those concerned.
use Rattle.std.specs.Prelude.{ℕ, List, ◌⊎◌}
use Rattle.list_words.specs.Lists.{Some_of}
use Rattle.role_order.specs.Roles.{IsIn}
use Rattle.arbac_policy.specs.Truth.{Holder}
use Rattle.arbac_policy.specs.Rules.{Rules}
use Rattle.arbac_policy.specs.Holders.{assign_rules, pairs_of}
use Rattle.arbac_policy.specs.Steps.{Blocks, LetsAssign}

-- some rule lets him give the role, and the target holds it or no pair blocks it
pub record MayAssign (holder : Holder) (rules : Rules) (by set : List ℕ) (role : ℕ) : Type 0 where
  pub lets : Some_of (LetsAssign holder rules by set role) (assign_rules holder rules)
  pub free : IsIn set role ⊎ (¬ Some_of (Blocks rules.order.edges set role) (pairs_of holder rules))
