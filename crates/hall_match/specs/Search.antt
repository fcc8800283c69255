-- The search for an augmenting path: which places it has seen, and by which alternating paths.
use Rattle.std.specs.Prelude.{ℕ, ◌≡◌, ◌+◌, ◌-◌, ◌<◌, ◌≤◌, ◌⊎◌, Bool, true, false, not, List, length, Option, Some, None}
use Rattle.std.specs.Prelude.{slice_index_or, slice_get, count_by, Contains}
use Rattle.std.specs.Prelude.{Vec}
use Rattle.std.specs.declared.alloc.Global.{Global}
use Rattle.hall_match.specs.declared.search.Reached.{Reached}
use Rattle.hall_match.specs.declared.search.Move.{Move}
use Rattle.hall_match.specs.declared.search.Found.{Found}
use Rattle.hall_match.specs.declared.search.Found.TheVariants.{Path, Closed}
use Rattle.hall_match.specs.Holding.{given_at, has_room}
use Rattle.hall_match.specs.Rows.{lists, row_at, AreInside}
use Rattle.hall_match.specs.Chains.{AreChains}

-- an instance of the search: capacities, rows, a partial matching, and the item that seeks a place
pub record Instance : Type 0 where
  pub capacities : List (Option ℕ)
  pub rows : List (List ℕ)
  pub given : List (Option ℕ)
  pub item : ℕ

-- the same of the vectors that hold the rows
abbrev pub instance : List (Option ℕ) → List (Vec ℕ Global) → List (Option ℕ) → ℕ → Instance
instance capacities rows given item = record {
  capacities = capacities;
  rows = lists rows;
  given = given;
  item = item;
}

-- the place has been seen
abbrev pub IsSeen : List Bool → ℕ → Type 0
IsSeen seen place = slice_index_or seen place false ≡ true

-- each place of the row has been seen
abbrev pub IsRowSeen : List Bool → List ℕ → Type 0
IsRowSeen seen row = (place : ℕ) → Contains row place → IsSeen seen place

-- the place is in the row of the item that seeks one, or of a later item that is given a seen place
abbrev pub IsReachable : Instance → List Bool → ℕ → Type 0
IsReachable s seen place = Contains (row_at s.rows s.item) place ⊎
    ((from user : ℕ) × IsSeen seen from × (s.item < user) × (given_at s.given user ≡ Some from) ×
    Contains (row_at s.rows user) place)

-- the items from the low one on that are given the place can go to seen places alone
abbrev pub IsShutFrom : Instance → List Bool → ℕ → ℕ → Type 0
IsShutFrom s seen place low = (user : ℕ) → low ≤ user → given_at s.given user ≡ Some place
    → IsRowSeen seen (row_at s.rows user)

-- no alternating path leads out of the seen places: each is reachable and full, and its later users
-- can go to seen places alone
pub record IsClosed (s : Instance) (seen : List Bool) : Type 0 where
  pub reachable : (place : ℕ) → IsSeen seen place → IsReachable s seen place
  pub full : (place : ℕ) → IsSeen seen place → has_room s.capacities s.given place ≡ false
  pub shut : (place : ℕ) → IsSeen seen place → IsShutFrom s seen place (s.item + 1)

-- the last step of the alternating path to the place: it is where the path begins, or a later user of
-- a place reached before can go there
abbrev pub IsStep : Instance → List Reached → ℕ → ℕ → Option Move → Type 0
IsStep s reached at place None = at ≡ 0
IsStep s reached at place (Some move) = (from : Reached) × (move.from < at) ×
    (slice_get reached move.from ≡ Some from) × (s.item < move.item) ×
    (given_at s.given move.item ≡ Some from.place) × Contains (row_at s.rows move.item) place

-- different places, each with the step by which an alternating path came to it
pub record IsAlternatingTree (s : Instance) (reached : List Reached) : Type 0 where
  pub steps : (at : ℕ) (here : Reached) → slice_get reached at ≡ Some here
      → IsStep s reached at here.place here.by
  pub apart : (at other : ℕ) (here there : Reached) → slice_get reached at ≡ Some here
      → slice_get reached other ≡ Some there → here.place ≡ there.place → at ≡ other

-- the place was reached, at the number or later
abbrev pub IsWaiting : List Reached → ℕ → ℕ → Type 0
IsWaiting reached low place = (at : ℕ) × (here : Reached) × (low ≤ at) ×
    (slice_get reached at ≡ Some here) × (here.place ≡ place)

-- a search that has gone through what it reached before the number: each seen place is shut or waits
pub record IsSearch (s : Instance) (seen : List Bool) (reached : List Reached) (low : ℕ) : Type 0 where
  pub tree : IsAlternatingTree s reached
  pub marked : (at : ℕ) (here : Reached) → slice_get reached at ≡ Some here → IsSeen seen here.place
  pub reachable : (place : ℕ) → IsSeen seen place → IsReachable s seen place
  pub full : (place : ℕ) → IsSeen seen place → has_room s.capacities s.given place ≡ false
  pub waiting : (place : ℕ) → IsSeen seen place
      → IsShutFrom s seen place (s.item + 1) ⊎ IsWaiting reached low place

-- an augmenting path: the place that was reached last has room
pub record IsFound (s : Instance) (reached : List Reached) : Type 0 where
  pub tree : IsAlternatingTree s reached
  pub last : Reached
  pub is_last : slice_get reached (length reached - 1) ≡ Some last
  pub room : has_room s.capacities s.given last.place ≡ true

-- a search that goes on: what was seen and reached stays so, and only unseen places are reached
pub record GoesOn (old new : List Bool) (before after : List Reached) : Type 0 where
  pub places : length new ≡ length old
  pub seen : (place : ℕ) → IsSeen old place → IsSeen new place
  pub reached : (at : ℕ) (here : Reached) → slice_get before at ≡ Some here
      → slice_get after at ≡ Some here
  pub left : count_by not new + length after ≡ count_by not old + length before

-- the least place of the row that can be had: an augmenting path begins there, and the lesser ones are
-- closed
pub record IsLeastPath (s : Instance) (reached : List Reached) : Type 0 where
  pub found : IsFound s reached
  pub first : Reached
  pub is_first : slice_get reached 0 ≡ Some first
  pub neighbour : Contains (row_at s.rows s.item) first.place
  pub closed : List Bool
  pub is_closed : IsClosed s closed
  pub least : (place : ℕ) → Contains (row_at s.rows s.item) place → place < first.place
      → IsSeen closed place

-- the item is given the place that was reached at the number
abbrev pub IsUserAt : List (Option ℕ) → List Reached → ℕ → ℕ → Type 0
IsUserAt given reached item at = (from : Reached) × (slice_get reached at ≡ Some from) ×
    (given_at given item ≡ Some from.place)

-- what a search stands on: rows of known places, a row for each item, and the chains of later items
pub record IsReady (s : Instance) (used : List ℕ) (ends links : List (Option ℕ)) : Type 0 where
  pub inside : AreInside s.rows (length s.capacities)
  pub counts : length used ≡ length s.capacities
  pub whole : length s.given ≡ length s.rows
  pub places : length ends ≡ length s.capacities
  pub items : length links ≡ length s.given
  pub chains : AreChains s.given (s.item + 1) (length s.given) ends links

-- the place where the search began
abbrev pub BeginsAt : List Reached → ℕ → Type 0
BeginsAt reached place = slice_get reached 0 ≡ Some (record { place = place; by = None })

-- an augmenting path from the place
pub record IsFoundFrom (s : Instance) (reached : List Reached) (place : ℕ) : Type 0 where
  pub found : IsFound s reached
  pub begins : BeginsAt reached place

-- the places that were closed before and more, the place among them
pub record IsClosedWith (s : Instance) (old new : List Bool) (place : ℕ) : Type 0 where
  pub closed : IsClosed s new
  pub here : IsSeen new place
  pub still : (p : ℕ) → IsSeen old p → IsSeen new p

-- each place of the item's row is closed
pub record IsClosedRow (s : Instance) (seen : List Bool) : Type 0 where
  pub places : length seen ≡ length s.capacities
  pub closed : IsClosed s seen
  pub row : IsRowSeen seen (row_at s.rows s.item)

-- what the search has found: an augmenting path from the least place that can be had, or none
abbrev pub IsOutcome : Instance → Found → Type 0
IsOutcome s (Path reached) = IsLeastPath s reached.items
IsOutcome s (Closed seen) = IsClosedRow s seen.items
