-- What can matter for a goal: roles that someone may have to have or to lack, and the rules that see to it.
use Rattle.std.specs.Prelude.{ℕ, ◌≡◌, List, slice_get, Some}
use Rattle.list_words.specs.Lists.{Each, IsOneOf}
use Rattle.role_order.specs.Roles.{IsIn, IsWithin}
use Rattle.role_order.specs.Reach.{seniors_of}
use Rattle.role_order.specs.Ranges.{IsInRange}
use Rattle.arbac_policy.specs.declared.rule.CanAssign.{CanAssign}
use Rattle.arbac_policy.specs.declared.rule.CanRevoke.{CanRevoke}
use Rattle.arbac_policy.specs.Truth.{Term, term_of}
use Rattle.arbac_policy.specs.Rules.{Rules}
use Rattle.arbac_laws.specs.Needs.{Need}
use Rattle.arbac_laws.specs.Conjuncts.{conjuncts}
use Rattle.arbac_laws.specs.Goals.{goal_requirements}
use Rattle.arbac_laws.specs.PreImages.{barred}
use Rattle.arbac_laws.specs.Obligations.{Obligation, assigns, revokes, obligations, pre_image}
use Rattle.arbac_laws.specs.NormalForms.{normal_form}

-- roles that are wanted, roles that are barred, and the places of rules to assign and to revoke
pub record Slice : Type 0 where
  pub wanted : List ℕ
  pub barred : List ℕ
  pub assign : List ℕ
  pub revoke : List ℕ

-- the roles of the hits are wanted, and those of the lacks barred
pub record HasNeed (slice : Slice) (need : Need) : Type 0 where
  pub hits : Each (λ hit. IsWithin hit slice.wanted) need.hits
  pub lacks : IsWithin need.lacks slice.barred

-- the rule at the place can matter for the role: so its administrator, what its condition wants and
-- bars, and what the exclusive pairs bar
pub record HasAssign (rules : Rules) (slice : Slice) (place : ℕ) (rule : CanAssign) (role : ℕ) : Type 0 where
  pub listed : IsIn slice.assign place
  pub admin : IsWithin (seniors_of rules.order rule.admin) slice.wanted
  pub conjuncts : Each (HasNeed slice) (conjuncts rules.order (term_of rule.cond))
  pub pairs : IsWithin (barred rules.order role rules.exclusive) slice.barred

-- the rule at the place can matter: so its administrator
pub record HasRevoke (rules : Rules) (slice : Slice) (place : ℕ) (rule : CanRevoke) : Type 0 where
  pub listed : IsIn slice.revoke place
  pub admin : IsWithin (seniors_of rules.order rule.admin) slice.wanted

-- it has what the goal wants and bars, each rule to assign that has a wanted role in its range, and each
-- rule to revoke that has a barred one
pub record IsClosedSlice (rules : Rules) (goal : List Term) (slice : Slice) : Type 0 where
  pub goals : Each (λ cond. Each (HasNeed slice) (conjuncts rules.order cond)) goal
  pub assigns : (place role : ℕ) (rule : CanAssign) → slice_get rules.assign place ≡ Some rule
      → IsInRange rules.order rule.range role → IsIn slice.wanted role → HasAssign rules slice place rule role
  pub revokes : (place role : ℕ) (rule : CanRevoke) → slice_get rules.revoke place ≡ Some rule
      → IsInRange rules.order rule.range role → IsIn slice.barred role → HasRevoke rules slice place rule

-- all that the first has, the second has
pub record IsPart (slice other : Slice) : Type 0 where
  pub wanted : IsWithin slice.wanted other.wanted
  pub barred : IsWithin slice.barred other.barred
  pub assign : IsWithin slice.assign other.assign
  pub revoke : IsWithin slice.revoke other.revoke

-- the least such slice
pub record IsRelevance (rules : Rules) (goal : List Term) (slice : Slice) : Type 0 where
  pub closed : IsClosedSlice rules goal slice
  pub least : (other : Slice) → IsClosedSlice rules goal other → IsPart slice other

-- the obligation's rule is one of the slice
abbrev pub IsRelevant : Slice → Obligation → Type 0
IsRelevant slice (assigns rule conjunct role target pick) = IsIn slice.assign rule
IsRelevant slice (revokes rule role target pick) = IsIn slice.revoke rule

-- a goal requirement, what is wanted before an obligation of a derived one, or the normal form of one
pub data IsDerived (rules : Rules) (goal : List Term) : List Need → Type 0 where
  of_goal : {needs : List Need} → IsOneOf (goal_requirements rules.order goal) needs → IsDerived rules goal needs
  before_act : {needs before : List Need} {ob : Obligation} → IsDerived rules goal needs → IsOneOf (obligations rules needs) ob
      → pre_image rules needs ob ≡ Some before → IsDerived rules goal before
  in_form : {needs form : List Need} → IsDerived rules goal needs → normal_form needs ≡ Some form → IsDerived rules goal form
