-- Whom users cover, as rows of bits.
use Rattle.std.specs.Prelude.{ℕ, ◌≡◌, ◌<◌, ◌↔◌, List, slice_get, Some}
use Rattle.std.specs.Int.{bit_at}
use Rattle.list_words.specs.Embeds.{IsInjective}
use Rattle.arbac_laws.specs.Needs.{Need, CoversNeed}

-- the user covers the one at the place
abbrev pub CoversThere : Need → List Need → ℕ → Type 0
CoversThere user others place = (other : Need) × (slice_get others place ≡ Some other) × CoversNeed user other

-- the row has the bits of just those that the user covers
abbrev pub IsRow : Need → List Need → ℕ → Type 0
IsRow user others row = (place : ℕ) → (bit_at row place ≡ 1) ↔ CoversThere user others place

-- the first so many rows are those of the users there
abbrev pub AreRows : List Need → List Need → List ℕ → ℕ → Type 0
AreRows users others rows count =
    (at : ℕ) (user : Need) → at < count → slice_get users at ≡ Some user → (row : ℕ) × (slice_get rows at ≡ Some row) × IsRow user others row

-- the first so many users cover others at different places, whose bits are set
pub record ArePlacedIn (users others : List Need) (count taken : ℕ) : Type 0 where
  pub to : ℕ → ℕ
  pub apart : IsInjective count to
  pub each : (at : ℕ) (user : Need) → at < count → slice_get users at ≡ Some user → (bit_at taken (to at) ≡ 1) × CoversThere user others (to at)
