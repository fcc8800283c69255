-- The limits of a run text, by number.
use Rattle.std.specs.Prelude.{◌≡◌}
use Rattle.arbac_policy.specs.declared.TheConstants.{MOST_EDGES, MOST_RULES, MOST_GOALS}
use Rattle.policy_text.specs.declared.TheConstants.{MOST_USERS, MOST_ACTS}

-- the limits by number
pub record AreLimits : Type 0 where
  pub edges : MOST_EDGES ≡ 10000
  pub rules : MOST_RULES ≡ 1000
  pub users : MOST_USERS ≡ 10000
  pub acts : MOST_ACTS ≡ 100000
  pub goals : MOST_GOALS ≡ 8
