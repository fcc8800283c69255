-- A question as plain data.
use Rattle.std.specs.Prelude.{ℕ, Bool, List, map}
use Rattle.arbac_policy.specs.declared.rule.CanRevoke.{CanRevoke}
use Rattle.arbac_policy.specs.declared.profile.Profile.{Profile}
use Rattle.arbac_policy.specs.Truth.{Term, term_of}
use Rattle.arbac_policy.specs.PlainRules.{AssignRule, plain_rule}
use Rattle.question_text.specs.declared.question.Question.{Question}

-- a question as plain data
pub record QuestionValue : Type 0 where
  pub separate : Bool
  pub names : List (List ℕ)
  pub admin_roles : List ℕ
  pub edges : List (ℕ × ℕ)
  pub exclusive : List (ℕ × ℕ)
  pub assign : List AssignRule
  pub revoke : List CanRevoke
  pub assignp : List AssignRule
  pub revokep : List CanRevoke
  pub profiles : List Profile
  pub goal : List Term

-- the question's parts
abbrev pub plain_of : Question → QuestionValue
plain_of q = record {
  separate = q.separate;
  names = q.policy.order.names;
  admin_roles = q.admin_roles;
  edges = q.policy.order.edges;
  exclusive = q.policy.exclusive;
  assign = map plain_rule q.policy.assign;
  revoke = q.policy.revoke;
  assignp = map plain_rule q.policy.assignp;
  revokep = q.policy.revokep;
  profiles = q.profiles.items;
  goal = map term_of q.goal.items;
}
