-- Words for the pre-images that needn't be made: who is an administrator already, and places that change.
use Rattle.std.specs.Prelude.{ℕ, ◌≡◌, ◌==◌, if◌then◌else◌, List, slice_get, Some}
use Rattle.list_words.specs.Lists.{Some_of}
use Rattle.role_order.specs.Roles.{less_roles, IsWithin}
use Rattle.arbac_laws.specs.Needs.{Need}
use Rattle.arbac_laws.specs.PreImages.{Pick, itself, other, fresh}

-- a hit of the user, less the lacks, lies within the set
abbrev pub HasHitWithin : List ℕ → Need → Type 0
HasHitWithin set need = Some_of (λ hit. IsWithin (less_roles hit need.lacks) set) need.hits

-- the administrator is a user who has such a hit
abbrev pub IsFree : List ℕ → Pick → ℕ → List Need → Type 0
IsFree set itself target needs = (need : Need) × (slice_get needs target ≡ Some need) × HasHitWithin set need
IsFree set (other place) target needs = (need : Need) × (slice_get needs place ≡ Some need) × HasHitWithin set need
IsFree set fresh target needs = ⊥

-- each of the two places for the other, and any other place for itself
abbrev pub changed_place : ℕ → ℕ → ℕ → ℕ
changed_place i j place = if place == i then j else if place == j then i else place

-- the administrator, where two users change places
abbrev pub changed_pick : ℕ → ℕ → Pick → Pick
changed_pick i j itself = itself
changed_pick i j (other place) = other (changed_place i j place)
changed_pick i j fresh = fresh
