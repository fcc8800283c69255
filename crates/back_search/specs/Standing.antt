-- Where the users of a pre-image stand.
use Rattle.std.specs.Prelude.{ℕ, ◌≡◌, List, Some}
use Rattle.arbac_policy.specs.Rules.{Rules}
use Rattle.arbac_laws.specs.Needs.{Need}
use Rattle.arbac_laws.specs.NormalForms.{AreFormPlaces, pre_form}
use Rattle.arbac_laws.specs.Obligations.{Obligation, pre_image}

-- the users of the obligation's pre-image stand at these places of its normal form
pub record AreStanding (rules : Rules) (needs : List Need) (ob : Obligation) (places : List ℕ) : Type 0 where
  pub raw : List Need
  pub raw_is : pre_image rules needs ob ≡ Some raw
  pub form : List Need
  pub form_is : pre_form rules needs ob ≡ Some form
  pub stand : AreFormPlaces raw form places
