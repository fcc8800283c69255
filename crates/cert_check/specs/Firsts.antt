-- What fails first in a list of requirements, part by part.
use Rattle.std.specs.Prelude.{ℕ, List}
use Rattle.list_words.specs.Lists.{IsFirst}
use Rattle.arbac_policy.specs.declared.profile.Profile.{Profile}
use Rattle.arbac_policy.specs.Rules.{Rules}
use Rattle.arbac_laws.specs.Needs.{Need}
use Rattle.arbac_laws.specs.Obligations.{obligations}
use Rattle.arbac_laws.specs.Serving.{ServesLeast}
use Rattle.cert_check.specs.Asked.{HasOpen, HasStart, IsOpen}

-- the first requirement of the list that has an open obligation, and its first one
pub record IsOpenAt (rules : Rules) (members list : List (List Need)) (place obligation : ℕ) : Type 0 where
  pub member : IsFirst (HasOpen rules members) list place
  pub first : IsFirst (IsOpen rules members member.item) (obligations rules member.item) obligation

-- the first requirement of the list that drawn users meet, and the least choice of these users
pub record IsMetAt (profiles : List Profile) (list : List (List Need)) (place : ℕ) (choice : List ℕ) : Type 0 where
  pub member : IsFirst (HasStart profiles) list place
  pub least : ServesLeast profiles member.item choice
