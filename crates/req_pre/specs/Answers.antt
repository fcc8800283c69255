-- Where the users of a requirement stand in the normal form that is answered.
use Rattle.std.specs.Prelude.{ℕ, ◌≡◌, ◌<◌, List, Option, Some, slice_get}
use Rattle.arbac_policy.specs.Rules.{Rules}
use Rattle.arbac_laws.specs.Needs.{Need}
use Rattle.arbac_laws.specs.NormalForms.{AreFormPlaces}
use Rattle.arbac_laws.specs.PreImages.{Pick, itself, other, fresh}
use Rattle.arbac_laws.specs.Obligations.{Obligation, pick_of, pre_image}
use Rattle.req_core.specs.declared.answers.Normal.{Normal}

-- of the requirement of each number, where it has a normal form
abbrev pub AreGoalPlaces : List (List Need) → List (Option Normal) → Type 0
AreGoalPlaces goals forms = (number : ℕ) (needs : List Need) (normal : Normal) → slice_get goals number ≡ Some needs
    → slice_get forms number ≡ Some (Some normal) → AreFormPlaces needs normal.req normal.places.items

-- of the pre-image of the obligation; a new administrator stands last in it
abbrev pub ArePrePlaces : Rules → List Need → Obligation → Normal → Type 0
ArePrePlaces rules needs ob normal = (before : List Need) × (pre_image rules needs ob ≡ Some before)
    × AreFormPlaces before normal.req normal.places.items

-- the administrator is the target, new, or one of so many users
abbrev pub IsThere : ℕ → Pick → Type 0
IsThere count itself = Unit {0}
IsThere count (other place) = place < count
IsThere count fresh = Unit {0}

-- the obligation's administrator is there, in a requirement of so many users
abbrev pub HasAdmin : ℕ → Obligation → Type 0
HasAdmin count ob = IsThere count (pick_of ob)
