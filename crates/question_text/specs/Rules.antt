-- The limits and rules that a question keeps.
use Rattle.std.specs.Prelude.{ℕ, ◌≡◌, ◌<◌, ◌≤◌, ◌*◌, true, false, List, [], ◌∷◌, length, Option, Some, None}
use Rattle.list_words.specs.Lists.{Each}
use Rattle.role_order.specs.Roles.{AreBelow, Rises}
use Rattle.role_order.specs.Refusals.{IsOrder}
use Rattle.arbac_policy.specs.declared.rule.CanRevoke.{CanRevoke}
use Rattle.arbac_policy.specs.declared.profile.Profile.{Profile}
use Rattle.arbac_policy.specs.Truth.{Term, IsKnown}
use Rattle.arbac_policy.specs.Rules.{IsKnownRange, IsKnownPair}
use Rattle.cond_text.specs.declared.TheConstants.{MOST_TERMS}
use Rattle.cond_text.specs.Grammar.{term_count}
use Rattle.arbac_policy.specs.declared.TheConstants.{MOST_EDGES, MOST_RULES, MOST_GOALS}
use Rattle.arbac_policy.specs.PlainRules.{AssignRule}
use Rattle.arbac_rules.specs.declared.TheConstants.{MOST_CONJUNCTS}
use Rattle.arbac_rules.specs.Widths.{width, goal_width}
use Rattle.question_text.specs.declared.TheConstants.{MOST_PAIRS, MOST_PROFILES, MOST_OF_PROFILE}
use Rattle.question_text.specs.Values.{QuestionValue}
use Rattle.question_text.specs.Roles.{is_mixed}
use Rattle.question_text.specs.Tables.{is_mixed_rule, names_admin}

-- a set of roles of the order
pub record IsSet (count : ℕ) (set : List ℕ) : Type 0 where
  pub rises : Rises set
  pub below : AreBelow count set

-- two different roles
pub record IsPair (count : ℕ) (pair : ℕ × ℕ) : Type 0 where
  pub known : IsKnownPair count pair
  pub differ : ¬ (pair.0 ≡ pair.1)

-- a condition whose roles are known, with few terms
pub record IsCondition (count : ℕ) (cond : Term) : Type 0 where
  pub known : IsKnown count cond
  pub few : term_count cond ≤ MOST_TERMS

-- each number in the rule is a role, and its condition is within the limits
pub record IsAssignRule (count : ℕ) (rule : AssignRule) : Type 0 where
  pub admin : rule.admin < count
  pub cond : IsCondition count rule.cond
  pub range : IsKnownRange count rule.range
  pub narrow : width rule.cond ≤ MOST_CONJUNCTS

-- each number in the rule is a role
pub record IsRevokeRule (count : ℕ) (rule : CanRevoke) : Type 0 where
  pub admin : rule.admin < count
  pub range : IsKnownRange count rule.range

-- the number of users is within the limit, if there is one
abbrev pub IsMost : Option ℕ → Type 0
IsMost None = Unit {0}
IsMost (Some most) = most ≤ MOST_OF_PROFILE

-- the profile's set and number are right
pub record IsProfile (count : ℕ) (profile : Profile) : Type 0 where
  pub set : IsSet count profile.set
  pub most : IsMost profile.most

-- administrative roles stand with administrative ones alone, and administer rules for others
pub record AreApart (q : QuestionValue) : Type 0 where
  pub edges : Each (λ edge. is_mixed q.admin_roles edge ≡ false) q.edges
  pub exclusive : Each (λ pair. is_mixed q.admin_roles pair ≡ false) q.exclusive
  pub assign : Each (λ rule. (is_mixed_rule q.admin_roles rule.admin rule.range ≡ false) × (names_admin q.admin_roles (Some rule.cond) ≡ false)) q.assign
  pub revoke : Each (λ rule. is_mixed_rule q.admin_roles rule.admin rule.range ≡ false) q.revoke
  pub assignp : Each (λ rule. (is_mixed_rule q.admin_roles rule.admin rule.range ≡ false)
      × (names_admin q.admin_roles (Some rule.cond) ≡ false)) q.assignp
  pub revokep : Each (λ rule. is_mixed_rule q.admin_roles rule.admin rule.range ≡ false) q.revokep

-- as a document's question does: an order, known roles, lists within their limits, and administrative roles apart where they are kept separate
pub record KeepsRules (q : QuestionValue) : Type 0 where
  pub order : IsOrder q.names q.edges
  pub edges : length q.edges ≤ MOST_EDGES
  pub admins : IsSet (length q.names) q.admin_roles
  pub exclusive : (length q.exclusive ≤ MOST_PAIRS) × Each (IsPair (length q.names)) q.exclusive
  pub assign : (length q.assign ≤ MOST_RULES) × Each (IsAssignRule (length q.names)) q.assign
  pub revoke : (length q.revoke ≤ MOST_RULES) × Each (IsRevokeRule (length q.names)) q.revoke
  pub assignp : (length q.assignp ≤ MOST_RULES) × Each (IsAssignRule (length q.names)) q.assignp
  pub revokep : (length q.revokep ≤ MOST_RULES) × Each (IsRevokeRule (length q.names)) q.revokep
  pub profiles : (length q.profiles ≤ MOST_PROFILES) × Each (IsProfile (length q.names)) q.profiles
  pub goal : (length q.goal ≤ MOST_GOALS) × Each (IsCondition (length q.names)) q.goal
  pub narrow : goal_width q.goal ≤ MOST_CONJUNCTS
  pub apart : q.separate ≡ true → AreApart q
