-- Which item holds each place, and the search for a place of one more item.
use Rattle.std.specs.Prelude.{ℕ, ◌≡◌, ◌<◌, ◌⊎◌, List, Option, Some, None, slice_index_or}
use Rattle.std.specs.Int.{bit_at}
use Rattle.mask_match.specs.Rows.{HasBitAt}
use Rattle.mask_match.specs.declared.TheConstants.{MOST_PLACES}

-- who holds the place, if anybody
abbrev pub holder_at : List (Option ℕ) → ℕ → Option ℕ
holder_at holders place = slice_index_or holders place None

-- the item holds some place
abbrev pub Holds : List (Option ℕ) → ℕ → Type 0
Holds holders item = (place : ℕ) × (holder_at holders place ≡ Some item)

-- whoever holds a place has its bit, and holds no other
pub record AreHeld (rows : List ℕ) (holders : List (Option ℕ)) : Type 0 where
  pub own : (place item : ℕ) → holder_at holders place ≡ Some item → HasBitAt rows item place
  pub once : (p q item : ℕ) → holder_at holders p ≡ Some item → holder_at holders q ≡ Some item → p ≡ q

-- the item holds a place beside those who held one before
pub record IsGiven (rows : List ℕ) (old new : List (Option ℕ)) (item : ℕ) : Type 0 where
  pub held : AreHeld rows new
  pub here : Holds new item
  pub kept : (other : ℕ) → Holds old other → Holds new other
  pub only : (other : ℕ) → Holds new other → (other ≡ item) ⊎ Holds old other

-- all bits of the item's row are seen
abbrev pub IsRowSeen : List ℕ → ℕ → ℕ → Type 0
IsRowSeen rows seen item = (place : ℕ) → HasBitAt rows item place → bit_at seen place ≡ 1

-- the place is held by an item that could go to seen places alone
abbrev pub IsShut : List ℕ → List (Option ℕ) → ℕ → ℕ → Type 0
IsShut rows holders seen place = (item : ℕ) × (holder_at holders place ≡ Some item) × IsRowSeen rows seen item

-- each place is still seen, and those seen since then are shut
pub record AreShut (rows : List ℕ) (holders : List (Option ℕ)) (before now : ℕ) : Type 0 where
  pub still : (place : ℕ) → bit_at before place ≡ 1 → bit_at now place ≡ 1
  pub shut : (place : ℕ) → bit_at now place ≡ 1 → (bit_at before place ≡ 1) ⊎ IsShut rows holders now place

-- a place of the row that isn't seen
pub record IsOpen (row seen place : ℕ) : Type 0 where
  pub within : place < MOST_PLACES
  pub set : bit_at row place ≡ 1
  pub unseen : bit_at seen place ≡ 0
