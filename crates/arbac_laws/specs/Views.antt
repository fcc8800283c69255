-- Conjuncts as requirements on one user.
use Rattle.std.specs.Prelude.{List, map}
use Rattle.arbac_policy.specs.declared.conjunct.Conjunct.{Conjunct}
use Rattle.arbac_laws.specs.Needs.{Need}

-- the conjunct's hits and lacks
abbrev pub need_of : Conjunct → Need
need_of x = record { hits = x.hits.items; lacks = x.lacks }

-- each conjunct of a list
abbrev pub needs_of : List Conjunct → List Need
needs_of xs = map need_of xs
