-- The least places of items.
use Rattle.std.specs.Prelude.{ℕ, ◌≡◌, ◌<◌, ◌≤◌, List, length, slice_index}

-- the least place below the number with which the item goes
pub record IsFirstPlace (Joins : ℕ → ℕ → Type 0) (places item place : ℕ) : Type 0 where
  pub within : place < places
  pub joins : Joins item place
  pub least : (other : ℕ) → Joins item other → place ≤ other

-- the item goes with none of them
abbrev pub HasNoPlace : (ℕ → ℕ → Type 0) → ℕ → ℕ → Type 0
HasNoPlace Joins places item = (place : ℕ) → place < places → ¬ Joins item place

-- the least place of each of so many items
pub record AreFirstPlaces (Joins : ℕ → ℕ → Type 0) (places items : ℕ) (list : List ℕ) : Type 0 where
  pub long : length list ≡ items
  pub each : (item : ℕ) → item < items → IsFirstPlace Joins places item (slice_index list item)
