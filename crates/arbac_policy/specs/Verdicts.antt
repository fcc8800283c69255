-- The first part of an act that fails.
use Rattle.std.specs.Prelude.{ℕ, ◌≡◌, ◌<◌, ◌≤◌, List, [], ◌∷◌, ◌⊎◌, length, slice_get, Some, None}
use Rattle.list_words.specs.Lists.{Some_of, IsFirst}
use Rattle.role_order.specs.Roles.{IsIn}
use Rattle.role_order.specs.Ranges.{IsInRange}
use Rattle.role_order.specs.declared.range.Range.{Range}
use Rattle.arbac_policy.specs.declared.act.Act.{Act}
use Rattle.arbac_policy.specs.declared.act.ActKind.{ActKind}
use Rattle.arbac_policy.specs.declared.act.ActKind.TheVariants.{Assign, Weak, Strong}
use Rattle.arbac_policy.specs.declared.verdict.Part.{Part}
use Rattle.arbac_policy.specs.declared.verdict.Part.TheVariants.{NoUser, NoRole, NoRange, NoAdmin, NoCondition, Exclusive}
use Rattle.arbac_policy.specs.declared.verdict.Side.TheVariants.{Admin, Target}
use Rattle.arbac_policy.specs.Truth.{Holder, user, permission, IsMember}
use Rattle.arbac_policy.specs.Rules.{Rules}
use Rattle.arbac_policy.specs.Holders.{assign_rules, revoke_rules, pairs_of, falling, admins_of}
use Rattle.arbac_policy.specs.Steps.{Blocks, LetsAssign, LetsRevoke, WeakStep}

-- the administrator's place is outside the users, or else the target's place outside its list
abbrev pub PlaceFails : List (List ℕ) → List (List ℕ) → ℕ → ℕ → Part → Type 0
PlaceFails users old admin target (NoUser Admin place) = (place ≡ admin) × (slice_get users admin ≡ None)
PlaceFails users old admin target (NoUser Target place) =
    (place ≡ target) × ((by : List ℕ) × (slice_get users admin ≡ Some by)) × (slice_get old target ≡ None)
PlaceFails users old admin target (NoRole role) = ⊥
PlaceFails users old admin target (NoRange role) = ⊥
PlaceFails users old admin target (NoAdmin role rule) = ⊥
PlaceFails users old admin target (NoCondition role rule) = ⊥
PlaceFails users old admin target (Exclusive role pair) = ⊥

-- the range has the role, and the administrator's set is a member of the administrative role
abbrev pub FitsRule : Rules → List ℕ → ℕ → Range → ℕ → Type 0
FitsRule rules by role range admin = IsInRange rules.order range role × IsMember rules.order.edges by admin

-- giving the role to a target with the set fails for this first part
abbrev pub AssignFails : Holder → Rules → List ℕ → List ℕ → ℕ → Part → Type 0
AssignFails holder rules by set role (NoUser side place) = ⊥
AssignFails holder rules by set role (NoRole r) = (r ≡ role) × (length rules.order.names ≤ role)
AssignFails holder rules by set role (NoRange r) =
    (r ≡ role) × (role < length rules.order.names) × (¬ Some_of (λ rule. IsInRange rules.order rule.range role) (assign_rules holder rules))
AssignFails holder rules by set role (NoAdmin r place) =
    (r ≡ role) × IsFirst (λ rule. IsInRange rules.order rule.range role) (assign_rules holder rules) place
    × (¬ Some_of (λ rule. FitsRule rules by role rule.range rule.admin) (assign_rules holder rules))
AssignFails holder rules by set role (NoCondition r place) =
    (r ≡ role) × IsFirst (λ rule. FitsRule rules by role rule.range rule.admin) (assign_rules holder rules) place
    × (¬ Some_of (LetsAssign holder rules by set role) (assign_rules holder rules))
AssignFails holder rules by set role (Exclusive r place) =
    (r ≡ role) × Some_of (LetsAssign holder rules by set role) (assign_rules holder rules) × (¬ IsIn set role)
    × IsFirst (Blocks rules.order.edges set role) (pairs_of holder rules) place

-- taking the role away fails for this first part
abbrev pub RevokeFails : Holder → Rules → List ℕ → ℕ → Part → Type 0
RevokeFails holder rules by role (NoUser side place) = ⊥
RevokeFails holder rules by role (NoRole r) = (r ≡ role) × (length rules.order.names ≤ role)
RevokeFails holder rules by role (NoRange r) =
    (r ≡ role) × (role < length rules.order.names) × (¬ Some_of (λ rule. IsInRange rules.order rule.range role) (revoke_rules holder rules))
RevokeFails holder rules by role (NoAdmin r place) =
    (r ≡ role) × IsFirst (λ rule. IsInRange rules.order rule.range role) (revoke_rules holder rules) place
    × (¬ Some_of (LetsRevoke rules by role) (revoke_rules holder rules))
RevokeFails holder rules by role (NoCondition r place) = ⊥
RevokeFails holder rules by role (Exclusive r place) = ⊥

-- an assignment has no step, for this first part
abbrev pub AssignDenied : Holder → Rules → List (List ℕ) → List (List ℕ) → ℕ → ℕ → ℕ → Part → Type 0
AssignDenied holder rules users old admin target role part =
    PlaceFails users old admin target part
    ⊎ ((by : List ℕ) × (set : List ℕ) × (slice_get users admin ≡ Some by) × (slice_get old target ≡ Some set)
    × AssignFails holder rules by set role part)

-- a weak revocation has no step, for this first part
abbrev pub WeakDenied : Holder → Rules → List (List ℕ) → List (List ℕ) → ℕ → ℕ → ℕ → Part → Type 0
WeakDenied holder rules users old admin target role part =
    PlaceFails users old admin target part
    ⊎ ((by : List ℕ) × (set : List ℕ) × (slice_get users admin ≡ Some by) × (slice_get old target ≡ Some set)
    × RevokeFails holder rules by role part)

-- of the weak steps of these roles the first that is none fails for this part, in the state that it finds
abbrev pub WeaksDenied : Holder → Rules → List (List ℕ) → List (List ℕ) → ℕ → ℕ → List ℕ → Part → Type 0
WeaksDenied holder rules users old admin target [] part = ⊥
WeaksDenied holder rules users old admin target (role ∷ roles) part =
    WeakDenied holder rules (admins_of holder users old) old admin target role part
    ⊎ ((mid : List (List ℕ)) × WeakStep holder rules (admins_of holder users old) old admin target role mid
    × WeaksDenied holder rules users mid admin target roles part)

-- a strong revocation has no step, for this first part
abbrev pub StrongDenied : Holder → Rules → List (List ℕ) → List (List ℕ) → ℕ → ℕ → ℕ → Part → Type 0
StrongDenied holder rules users old admin target role part =
    PlaceFails users old admin target part
    ⊎ ((by : List ℕ) × (set : List ℕ) × (slice_get users admin ≡ Some by) × (slice_get old target ≡ Some set)
    × (((part ≡ NoRole role) × (length rules.order.names ≤ role))
    ⊎ ((role < length rules.order.names) × WeaksDenied holder rules users old admin target (falling holder rules.order set role) part)))

-- an act of the kind has no step, for this first part
abbrev pub KindDenied : ActKind → Holder → Rules → List (List ℕ) → List (List ℕ) → ℕ → ℕ → ℕ → Part → Type 0
KindDenied Assign = AssignDenied
KindDenied Weak = WeakDenied
KindDenied Strong = StrongDenied

-- the act on users has no step, for this first part
abbrev pub Denies : Rules → List (List ℕ) → Act → Part → Type 0
Denies rules old act part = KindDenied act.kind user rules old old act.admin act.target act.role part

-- the act on permissions has no step, for this first part
abbrev pub PermDenies : Rules → List (List ℕ) → List (List ℕ) → Act → Part → Type 0
PermDenies rules users old act part = KindDenied act.kind permission rules users old act.admin act.target act.role part
