-- Slices: the places of the rules that can matter for a goal.
use Rattle.std.specs.Prelude.{ℕ, ◌≡◌, ◌↔◌, List, [], slice_get, Some}
use Rattle.role_order.specs.Roles.{IsIn, Rises}
use Rattle.arbac_policy.specs.Truth.{Term}
use Rattle.arbac_policy.specs.Rules.{Rules}
use Rattle.arbac_laws.specs.Obligations.{Obligation}
use Rattle.arbac_laws.specs.Relevance.{Slice as RoleSlice, IsRelevance, IsRelevant}
use Rattle.arbac_rules.specs.Widths.{too_many}
use Rattle.rule_prune.specs.declared.answers.Slice.{Slice}
use Rattle.rule_prune.specs.declared.answers.SliceError.{SliceError}
use Rattle.rule_prune.specs.declared.answers.SliceError.TheVariants.{TooWide, Memory}

-- the slice's places with these roles, as the laws see them
abbrev pub with_roles : Slice → List ℕ → List ℕ → RoleSlice
with_roles slice wanted barred = record { wanted = wanted; barred = barred; assign = slice.assign.items; revoke = slice.revoke.items }

-- with some roles its places are the least that can matter for the goal, and both lists rise
pub record IsSliceOf (rules : Rules) (goal : List Term) (slice : Slice) : Type 0 where
  pub wanted : List ℕ
  pub barred : List ℕ
  pub least : IsRelevance rules goal (with_roles slice wanted barred)
  pub assign : Rises slice.assign.items
  pub revoke : Rises slice.revoke.items

-- the obligation's rule is one of the slice
abbrev pub NamesRule : Slice → Obligation → Type 0
NamesRule slice ob = IsRelevant (with_roles slice [] []) ob

-- the error tells how many combinations of conjuncts the goal has with the first condition at which they are too many
abbrev pub IsTooMany : List Term → SliceError → Type 0
IsTooMany goal (TooWide count) = too_many goal ≡ Some count
IsTooMany goal Memory = Unit {0}

-- the places of the items of which P holds, rising
pub record ArePlacesWhere {A : Type 0} (P : A → Type 0) (xs : List A) (places : List ℕ) : Type 0 where
  pub rises : Rises places
  pub each : (place : ℕ) → IsIn places place ↔ ((x : A) × (slice_get xs place ≡ Some x) × P x)
