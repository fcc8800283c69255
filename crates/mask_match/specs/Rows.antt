-- Rows of bits: the places of items.
use Rattle.std.specs.Prelude.{ℕ, ◌≡◌, List, length, slice_get, Some}
use Rattle.std.specs.Int.{bit_at}
use Rattle.hall_match.specs.Joined.{IsTransversal}
use Rattle.mask_match.specs.declared.TheConstants.{MOST_PLACES}

-- the item's row has the bit of the place
abbrev pub HasBitAt : List ℕ → ℕ → ℕ → Type 0
HasBitAt rows item place = (row : ℕ) × (slice_get rows item ≡ Some row) × (bit_at row place ≡ 1)

-- there is a different place for each item, one of its row
abbrev pub ArePlaced : List ℕ → Type 0
ArePlaced rows = (list : List ℕ) × IsTransversal (HasBitAt rows) (length rows) MOST_PLACES list
