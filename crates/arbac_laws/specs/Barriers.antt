-- Barriers: roles that no run gives to anyone, those outside what profiles and rules could give at most.
use Rattle.std.specs.Prelude.{ℕ, ◌≡◌, Bool, true, ◌||◌, ◌&&◌, not, if◌then◌else◌, List, [], ◌∷◌, filter, Some}
use Rattle.list_words.specs.Lists.{IsOneOf}
use Rattle.role_order.specs.Roles.{has_role, have_common, IsIn, IsWithin, HaveCommon}
use Rattle.role_order.specs.Graph.{Graph}
use Rattle.role_order.specs.Reach.{count_up, seniors_of}
use Rattle.role_order.specs.Ranges.{IsInRange}
use Rattle.arbac_policy.specs.declared.profile.Profile.{Profile}
use Rattle.arbac_policy.specs.declared.rule.CanAssign.{CanAssign}
use Rattle.arbac_policy.specs.Truth.{Term, term_of, any, has, lacks, both, either}
use Rattle.arbac_policy.specs.Rules.{Rules}
use Rattle.arbac_laws.specs.Needs.{Need, HasHits}
use Rattle.arbac_laws.specs.Conjuncts.{conjuncts}
use Rattle.arbac_laws.specs.PreImages.{is_empty}

-- the set has all roles of each profile whose count isn't 0, and all roles of a rule's range where it
-- has a senior of the administrative role and a role of each hit of a conjunct
pub record HasGains (rules : Rules) (profiles : List Profile) (set : List ℕ) : Type 0 where
  pub drawn : (profile : Profile) → IsOneOf profiles profile → ¬ (profile.most ≡ Some 0) → IsWithin profile.set set
  pub given : (rule : CanAssign) → IsOneOf rules.assign rule → HaveCommon (seniors_of rules.order rule.admin) set
      → (conjunct : Need) → IsOneOf (conjuncts rules.order (term_of rule.cond)) conjunct → HasHits set conjunct.hits
      → (role : ℕ) → IsInRange rules.order rule.range role → IsIn set role

-- the least such set
pub record IsCeiling (rules : Rules) (profiles : List Profile) (set : List ℕ) : Type 0 where
  pub gains : HasGains rules profiles set
  pub least : (other : List ℕ) → HasGains rules profiles other → IsWithin set other

-- the set has what the condition wants: a senior of x where it says `x`; `not x` is taken as true
abbrev pub may_hold : Graph → List ℕ → Term → Bool
may_hold order set any = true
may_hold order set (has role) = have_common (seniors_of order role) set
may_hold order set (lacks role) = true
may_hold order set (both left right) = may_hold order set left && may_hold order set right
may_hold order set (either left right) = may_hold order set left || may_hold order set right

-- the set has a senior of the rule's administrative role, and the rule's condition may hold
abbrev pub may_give : Graph → List ℕ → CanAssign → Bool
may_give order set rule = have_common (seniors_of order rule.admin) set && may_hold order set (term_of rule.cond)

-- the set has all roles of each profile whose count isn't 0, and all of the range of each rule that may give
pub record HasGivenRoles (rules : Rules) (profiles : List Profile) (set : List ℕ) : Type 0 where
  pub drawn : (profile : Profile) → IsOneOf profiles profile → ¬ (profile.most ≡ Some 0) → IsWithin profile.set set
  pub given : (rule : CanAssign) → IsOneOf rules.assign rule → may_give rules.order set rule ≡ true
      → (role : ℕ) → IsInRange rules.order rule.range role → IsIn set role

-- all roles outside the set
abbrev pub outside : ℕ → List ℕ → List ℕ
outside count set = filter (λ role. not (has_role set role)) (count_up 0 count)

-- one user with one hit: every role outside
abbrev pub barrier : ℕ → List ℕ → List Need
barrier count set = record { hits = outside count set ∷ []; lacks = [] } ∷ []

-- one barrier where roles stand outside, and none otherwise
abbrev pub barriers : ℕ → List ℕ → List (List Need)
barriers count set = if is_empty (outside count set) then [] else barrier count set ∷ []
