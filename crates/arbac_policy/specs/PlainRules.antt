-- Rules of can_assign and can_assignp as plain data.
use Rattle.std.specs.Prelude.{ℕ}
use Rattle.role_order.specs.declared.range.Range.{Range}
use Rattle.arbac_policy.specs.declared.rule.CanAssign.{CanAssign}
use Rattle.arbac_policy.specs.Truth.{Term, term_of}

-- a rule of can_assign, its condition as plain data
pub record AssignRule : Type 0 where
  pub admin : ℕ
  pub cond : Term
  pub range : Range

-- the rule, its condition's boxes left out
abbrev pub plain_rule : CanAssign → AssignRule
plain_rule rule = record { admin = rule.admin; cond = term_of rule.cond; range = rule.range }
