-- Steps of URA97 on users and of PRA97 on permissions, and runs.
use Rattle.std.specs.Prelude.{ℕ, ◌≡◌, List, [], ◌∷◌, ◌⊎◌, slice_get, slice_set, Some}
use Rattle.list_words.specs.Lists.{Some_of}
use Rattle.role_order.specs.Roles.{with_role, without_role, IsIn}
use Rattle.role_order.specs.Graph.{Leads}
use Rattle.role_order.specs.Ranges.{IsInRange}
use Rattle.arbac_policy.specs.declared.rule.CanAssign.{CanAssign}
use Rattle.arbac_policy.specs.declared.rule.CanRevoke.{CanRevoke}
use Rattle.arbac_policy.specs.declared.act.Act.{Act}
use Rattle.arbac_policy.specs.declared.act.ActKind.{ActKind}
use Rattle.arbac_policy.specs.declared.act.ActKind.TheVariants.{Assign, Weak, Strong}
use Rattle.arbac_policy.specs.Truth.{Holder, user, permission, IsMember, Satisfies, term_of}
use Rattle.arbac_policy.specs.Rules.{Rules}
use Rattle.arbac_policy.specs.Holders.{assign_rules, revoke_rules, pairs_of, falling, admins_of}

-- the pair blocks the role for the set: the role is above one of the pair, and with it the set is a member of both
pub record Blocks (edges : List (ℕ × ℕ)) (set : List ℕ) (role : ℕ) (pair : ℕ × ℕ) : Type 0 where
  pub above : Leads edges role pair.0 ⊎ Leads edges role pair.1
  pub first : IsMember edges (with_role set role) pair.0
  pub second : IsMember edges (with_role set role) pair.1

-- the rule lets an administrator with the set `by` give the role to a target with the set
pub record LetsAssign (holder : Holder) (rules : Rules) (by set : List ℕ) (role : ℕ) (rule : CanAssign) : Type 0 where
  pub in_range : IsInRange rules.order rule.range role
  pub by_admin : IsMember rules.order.edges by rule.admin
  pub meets : Satisfies holder rules.order.edges set (term_of rule.cond)

-- the rule lets an administrator with the set `by` take the role away
pub record LetsRevoke (rules : Rules) (by : List ℕ) (role : ℕ) (rule : CanRevoke) : Type 0 where
  pub in_range : IsInRange rules.order rule.range role
  pub by_admin : IsMember rules.order.edges by rule.admin

-- the administrator is a place of the users and the target one of the old list; all but the target stay
pub record AssignStep (holder : Holder) (rules : Rules) (users old : List (List ℕ)) (admin target role : ℕ) (new : List (List ℕ)) : Type 0 where
  pub by : List ℕ
  pub by_is : slice_get users admin ≡ Some by
  pub set : List ℕ
  pub set_is : slice_get old target ≡ Some set
  pub lets : Some_of (LetsAssign holder rules by set role) (assign_rules holder rules)
  pub free : IsIn set role ⊎ (¬ Some_of (Blocks rules.order.edges set role) (pairs_of holder rules))
  pub gives : new ≡ slice_set old target (with_role set role)

-- some rule lets the administrator, and the target loses the role, whether it holds it or not; all others stay as they are
pub record WeakStep (holder : Holder) (rules : Rules) (users old : List (List ℕ)) (admin target role : ℕ) (new : List (List ℕ)) : Type 0 where
  pub by : List ℕ
  pub by_is : slice_get users admin ≡ Some by
  pub set : List ℕ
  pub set_is : slice_get old target ≡ Some set
  pub lets : Some_of (LetsRevoke rules by role) (revoke_rules holder rules)
  pub gives : new ≡ slice_set old target (without_role set role)

-- a weak step for each of these roles in turn, beginning where the one before it ended
abbrev pub WeakSteps : Holder → Rules → List (List ℕ) → List (List ℕ) → ℕ → ℕ → List ℕ → List (List ℕ) → Type 0
WeakSteps holder rules users old admin target [] new = new ≡ old
WeakSteps holder rules users old admin target (role ∷ roles) new =
    (mid : List (List ℕ)) × WeakStep holder rules (admins_of holder users old) old admin target role mid
    × WeakSteps holder rules users mid admin target roles new

-- the weak steps of the role and of each held role in its reach, by rising number
pub record StrongStep (holder : Holder) (rules : Rules) (users old : List (List ℕ)) (admin target role : ℕ) (new : List (List ℕ)) : Type 0 where
  pub set : List ℕ
  pub set_is : slice_get old target ≡ Some set
  pub steps : WeakSteps holder rules users old admin target (falling holder rules.order set role) new

-- the step of an act of the kind
abbrev pub KindStep : ActKind → Holder → Rules → List (List ℕ) → List (List ℕ) → ℕ → ℕ → ℕ → List (List ℕ) → Type 0
KindStep Assign = AssignStep
KindStep Weak = WeakStep
KindStep Strong = StrongStep

-- URA97: the act leads from one population to the other
abbrev pub Step : Rules → List (List ℕ) → Act → List (List ℕ) → Type 0
Step rules old act new = KindStep act.kind user rules old old act.admin act.target act.role new

-- PRA97: the act of a user leads from one list of permissions to the other, while the users stay
abbrev pub PermStep : Rules → List (List ℕ) → List (List ℕ) → Act → List (List ℕ) → Type 0
PermStep rules users old act new = KindStep act.kind permission rules users old act.admin act.target act.role new

-- the acts lead from one population to the other, one after another
abbrev pub Run : Rules → List (List ℕ) → List Act → List (List ℕ) → Type 0
Run rules old [] new = new ≡ old
Run rules old (act ∷ acts) new = (mid : List (List ℕ)) × Step rules old act mid × Run rules mid acts new
