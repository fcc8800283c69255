-- What is made of an act on one target, by administrator.
use Rattle.std.specs.Prelude.{ℕ, ◌≡◌, ◌<◌, ◌==◌, Bool, true, false, not, List, [], slice_get, slice_set, option_map, Option, Some}
use Rattle.arbac_laws.specs.Needs.{Need}
use Rattle.arbac_laws.specs.Obligations.{Obligation}
use Rattle.arbac_laws.specs.Recorded.{Entry}
use Rattle.arbac_laws.specs.NormalForms.{normal_form}
use Rattle.arbac_laws.specs.PreImages.{Pick, with_admin, itself, other, fresh}
use Rattle.req_core.specs.Forms.{user_form}
use Rattle.search_laws.specs.Pruning.{HasHitWithin}
use Rattle.shared_reqs.specs.Shared.{MarkedNeed, needs_marked}
use Rattle.search_rounds.specs.Making.{by_pick}

-- whatever the target's user requirement is the form of, what was made is the normal form of the pre-image
abbrev pub IsPreForm : List Need → ℕ → List ℕ → Need → Pick → Option (List MarkedNeed) → Type 0
IsPreForm needs target hit before pick made =
    (raw : Need) → user_form raw ≡ Some before → option_map needs_marked made ≡ normal_form (with_admin pick target hit (slice_set needs target raw))

-- the user at the place isn't the target, and has such a hit
pub record IsFreePlace (hit : List ℕ) (needs : List Need) (target place : ℕ) : Type 0 where
  pub apart : ¬ (place ≡ target)
  pub need : Need
  pub at : slice_get needs place ≡ Some need
  pub has : HasHitWithin hit need

-- the first administrator in the order of administrators who has such a hit
abbrev pub IsFirstFree : List ℕ → List Need → ℕ → Need → Pick → Type 0
IsFirstFree hit needs target before itself = HasHitWithin hit before
IsFirstFree hit needs target before (other place) =
    ¬ HasHitWithin hit before × IsFreePlace hit needs target place × ((k : ℕ) → k < place → ¬ IsFreePlace hit needs target k)
IsFirstFree hit needs target before fresh = ⊥

-- the list where the test is true, and nothing otherwise
abbrev pub only_if : Bool → List Entry → List Entry
only_if true list = list
only_if false list = []

-- the candidate by the user at the place, unless that is the target
abbrev pub by_other : ℕ → (Pick → Obligation) → List ℕ → List Need → ℕ → Need → ℕ → List Entry
by_other parent ob hit needs target before place = only_if (not (place == target)) (by_pick parent ob hit needs target before (other place))
