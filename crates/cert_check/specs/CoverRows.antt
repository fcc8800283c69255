-- Whom users cover, as rows of bits.
use Rattle.std.specs.Prelude.{ℕ, ◌≡◌, ◌<◌, ◌↔◌, List, slice_get, Some}
use Rattle.std.specs.Int.{bit_at}
use Rattle.arbac_policy.specs.declared.conjunct.Conjunct.{Conjunct}
use Rattle.cert_needs.specs.declared.wanted.Wanted.{Wanted}
use Rattle.cert_needs.specs.Cover.{IsPartner}

-- the user covers what is wanted of the one at the place
abbrev pub IsPartnerAt : Conjunct → List Wanted → ℕ → Type 0
IsPartnerAt user others place = (other : Wanted) × (slice_get others place ≡ Some other) × IsPartner user other

-- the row has the bits of just those that the user covers
abbrev pub IsRow : Conjunct → List Wanted → ℕ → Type 0
IsRow user others row = (place : ℕ) → (bit_at row place ≡ 1) ↔ IsPartnerAt user others place

-- the first so many rows are those of the users there
abbrev pub AreRows : List Conjunct → List Wanted → List ℕ → ℕ → Type 0
AreRows users others rows count =
    (at : ℕ) (user : Conjunct) → at < count → slice_get users at ≡ Some user → (row : ℕ) × (slice_get rows at ≡ Some row) × IsRow user others row
