-- The conjuncts of a condition.
use Rattle.std.specs.Prelude.{List, [], ◌∷◌, ◌++◌}
use Rattle.role_order.specs.Roles.{join_roles}
use Rattle.role_order.specs.Graph.{Graph}
use Rattle.role_order.specs.Reach.{seniors_of}
use Rattle.arbac_policy.specs.Truth.{Term, any, has, lacks, both, either}
use Rattle.arbac_laws.specs.Needs.{Need}

-- the hits and the lacks of both
abbrev pub join_needs : Need → Need → Need
join_needs a b = record { hits = a.hits ++ b.hits; lacks = join_roles a.lacks b.lacks }

-- the first with each of the list
abbrev pub join_with : Need → List Need → List Need
join_with a [] = []
join_with a (b ∷ bs) = join_needs a b ∷ join_with a bs

-- each of the first list with each of the second, the first one slowest
abbrev pub join_all : List Need → List Need → List Need
join_all [] bs = []
join_all (a ∷ rest) bs = join_with a bs ++ join_all rest bs

-- `x` wants a senior of x, `not x` bars them all; `or` has the conjuncts of both sides, the left
-- ones first; `and` has each left one with each right one
abbrev pub conjuncts : Graph → Term → List Need
conjuncts order any = record { hits = []; lacks = [] } ∷ []
conjuncts order (has role) = record { hits = seniors_of order role ∷ []; lacks = [] } ∷ []
conjuncts order (lacks role) = record { hits = []; lacks = seniors_of order role } ∷ []
conjuncts order (both left right) = join_all (conjuncts order left) (conjuncts order right)
conjuncts order (either left right) = conjuncts order left ++ conjuncts order right
