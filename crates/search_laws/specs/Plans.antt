-- The plan from a found entry: its origins back to the goal give one act each, the nearest to the start first.
use Rattle.std.specs.Prelude.{ℕ, ◌≡◌, List, [], ◌∷◌, length, get_or, slice_get, Some}
use Rattle.arbac_policy.specs.declared.act.Act.{Act}
use Rattle.arbac_policy.specs.Rules.{Rules}
use Rattle.arbac_laws.specs.Needs.{Need}
use Rattle.arbac_laws.specs.Obligations.{Obligation, act_of, pre_image}
use Rattle.arbac_laws.specs.NormalForms.{AreFormPlaces}
use Rattle.arbac_laws.specs.Recorded.{Entry, of_goal, of_parent}

-- the entry is the pre-image of an obligation of this parent, and the users of both stand at these places of it
pub record ComesFrom (rules : Rules) (recorded : List Entry) (entry parent : Entry) (ob : Obligation) (places : List ℕ) : Type 0 where
  pub number : ℕ
  pub origin : entry.origin ≡ of_parent number ob
  pub parent_is : slice_get recorded number ≡ Some parent
  pub raw : List Need
  pub raw_is : pre_image rules parent.needs ob ≡ Some raw
  pub stand : AreFormPlaces raw entry.needs places

-- the acts from an entry whose users stand at these places of the population: the act of its obligation, and then
-- those of its parent; none from a goal requirement
abbrev pub Plans : Rules → List Entry → Entry → (ℕ → ℕ) → List Act → Type 0
Plans rules recorded entry to [] = (number : ℕ) × (entry.origin ≡ of_goal number)
Plans rules recorded entry to (act ∷ acts) =
    (parent : Entry) × (ob : Obligation) × (places : List ℕ) × ComesFrom rules recorded entry parent ob places
    × (act ≡ act_of ob (length parent.needs) (λ user. to (get_or places user 0)))
    × Plans rules recorded parent (λ user. to (get_or places user 0)) acts
