-- A policy: a role order, the rules of URA97 and PRA97, and the exclusive pairs.
use Rattle.std.specs.Prelude.{ℕ, ◌<◌, ◌^◌, List, length}
use Rattle.list_words.specs.Lists.{Each}
use Rattle.role_order.specs.Graph.{Graph}
use Rattle.role_order.specs.declared.range.Range.{Range}
use Rattle.arbac_policy.specs.declared.rule.CanAssign.{CanAssign}
use Rattle.arbac_policy.specs.declared.rule.CanRevoke.{CanRevoke}
use Rattle.arbac_policy.specs.Truth.{term_of, IsKnown}

-- a role order, the rules that give and take roles of users and of permissions, and the exclusive pairs
pub record Rules : Type 0 where
  pub order : Graph
  pub assign : List CanAssign
  pub revoke : List CanRevoke
  pub assignp : List CanAssign
  pub revokep : List CanRevoke
  pub exclusive : List (ℕ × ℕ)

-- the policy of these parts
abbrev pub policy_of : Graph → List CanAssign → List CanRevoke → List CanAssign → List CanRevoke → List (ℕ × ℕ) → Rules
policy_of order assign revoke assignp revokep exclusive = record {
  order = order;
  assign = assign;
  revoke = revoke;
  assignp = assignp;
  revokep = revokep;
  exclusive = exclusive;
}

-- both ends are roles
abbrev pub IsKnownRange : ℕ → Range → Type 0
IsKnownRange count range = (range.low < count) × (range.high < count)

-- each number in the rule is a role
pub record IsKnownAssign (count : ℕ) (rule : CanAssign) : Type 0 where
  pub admin : rule.admin < count
  pub cond : IsKnown count (term_of rule.cond)
  pub range : IsKnownRange count rule.range

-- each number in the rule is a role
pub record IsKnownRevoke (count : ℕ) (rule : CanRevoke) : Type 0 where
  pub admin : rule.admin < count
  pub range : IsKnownRange count rule.range

-- both are roles
abbrev pub IsKnownPair : ℕ → ℕ × ℕ → Type 0
IsKnownPair count pair = (pair.0 < count) × (pair.1 < count)

-- each number in a rule or a pair is a role
pub record IsPolicy (rules : Rules) : Type 0 where
  pub assign : Each (IsKnownAssign (length rules.order.names)) rules.assign
  pub revoke : Each (IsKnownRevoke (length rules.order.names)) rules.revoke
  pub assignp : Each (IsKnownAssign (length rules.order.names)) rules.assignp
  pub revokep : Each (IsKnownRevoke (length rules.order.names)) rules.revokep
  pub exclusive : Each (IsKnownPair (length rules.order.names)) rules.exclusive

-- places in each table are 32-bit numbers
pub record AreCountable (rules : Rules) : Type 0 where
  pub assign : length rules.assign < 2 ^ 32
  pub revoke : length rules.revoke < 2 ^ 32
  pub assignp : length rules.assignp < 2 ^ 32
  pub revokep : length rules.revokep < 2 ^ 32
  pub exclusive : length rules.exclusive < 2 ^ 32
