-- The goal requirements of a goal.
use Rattle.std.specs.Prelude.{List, [], ◌∷◌, ◌++◌, map}
use Rattle.role_order.specs.Graph.{Graph}
use Rattle.arbac_policy.specs.Truth.{Term}
use Rattle.arbac_laws.specs.Needs.{Need}
use Rattle.arbac_laws.specs.Conjuncts.{conjuncts}

-- each of the first before each of the second, the first one slowest
abbrev pub before_each : List Need → List (List Need) → List (List Need)
before_each [] tails = []
before_each (a ∷ rest) tails = map (λ tail. a ∷ tail) tails ++ before_each rest tails

-- one user for each condition, who meets one of its conjuncts: all combinations, the first condition
-- slowest; their numbers are their places, and an impossible one keeps its number
abbrev pub goal_requirements : Graph → List Term → List (List Need)
goal_requirements order [] = [] ∷ []
goal_requirements order (cond ∷ conds) = before_each (conjuncts order cond) (goal_requirements order conds)
