-- The sample question of each size.
use Rattle.std.specs.Prelude.{ℕ, zero, suc, ◌≡◌, ◌+◌, ◌*◌, ◌==◌, false, if◌then◌else◌, List, [], ◌∷◌, ◌++◌, map, codes, None}
use Rattle.std.specs.Fmt.{decimal}
use Rattle.role_order.specs.Reach.{count_up}
use Rattle.arbac_policy.specs.Truth.{Term, has, lacks, both}
use Rattle.arbac_policy.specs.Rules.{Rules}
use Rattle.arbac_policy.specs.PlainRules.{AssignRule, plain_rule}
use Rattle.arbac_laws.specs.Obligations.{flat}
use Rattle.question_text.specs.Values.{QuestionValue}

-- the number of the role `k` of a place; that of `a` is 0
abbrev pub key : ℕ → ℕ
key at = 1 + 2 * at

-- the number of the role `x` of a place
abbrev pub extra : ℕ → ℕ
extra at = 2 + 2 * at

-- `a`, and then `k0`, `x0`, `k1`, `x1` and so on
abbrev pub role_names : ℕ → List (List ℕ)
role_names size = codes "a" ∷ flat (λ at. (codes "k" ++ decimal at) ∷ (codes "x" ++ decimal at) ∷ []) (count_up 0 size)

-- who has `a` gives the role alone, by the condition
abbrev pub rule : Term → ℕ → AssignRule
rule cond role = record { admin = 0; cond = cond; range = record { low = role; high = role; low_open = false; high_open = false } }

-- the place behind this one, and the first behind the last
abbrev pub next : ℕ → ℕ → ℕ
next size at = if at + 1 == size then 0 else at + 1

-- of each place: `k` to those who have `x`, and `x` to those who lack the next `k`
abbrev pub rules : ℕ → List AssignRule
rules size = flat (λ at. rule (has (extra at)) (key at) ∷ rule (lacks (key (next size at))) (extra at) ∷ []) (count_up 0 size)

-- `k0 and k1 and ..`
abbrev pub goal : ℕ → Term
goal zero = has (key 0)
goal (suc zero) = has (key 0)
goal (suc (suc more)) = both (goal (suc more)) (has (key (suc more)))

-- the whole question
abbrev pub sample : ℕ → QuestionValue
sample size = record {
  separate = false;
  names = role_names size;
  admin_roles = [];
  edges = [];
  exclusive = [];
  assign = rules size;
  revoke = [];
  assignp = [];
  revokep = [];
  profiles = record { set = 0 ∷ []; most = None } ∷ [];
  goal = goal size ∷ [];
}

-- the policy has these parts alone
pub record IsPolicyOf (size : ℕ) (policy : Rules) : Type 0 where
  pub names : policy.order.names ≡ role_names size
  pub edges : policy.order.edges ≡ []
  pub assign : map plain_rule policy.assign ≡ rules size
  pub revoke : policy.revoke ≡ []
  pub assignp : policy.assignp ≡ []
  pub revokep : policy.revokep ≡ []
  pub exclusive : policy.exclusive ≡ []
