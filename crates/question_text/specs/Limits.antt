-- The limits of a question document, by number.
use Rattle.std.specs.Prelude.{◌≡◌}
use Rattle.arbac_policy.specs.declared.TheConstants.{MOST_EDGES, MOST_RULES, MOST_GOALS}
use Rattle.question_text.specs.declared.TheConstants.{MOST_PAIRS, MOST_PROFILES, MOST_OF_PROFILE}

-- the limits by number
pub record AreLimits : Type 0 where
  pub edges : MOST_EDGES ≡ 10000
  pub rules : MOST_RULES ≡ 1000
  pub goals : MOST_GOALS ≡ 8
  pub pairs : MOST_PAIRS ≡ 1000
  pub profiles : MOST_PROFILES ≡ 1000
  pub of_profile : MOST_OF_PROFILE ≡ 1000000
