-- A sorted list with one item more, and a normal form with one user more.
use Rattle.std.specs.Prelude.{ℕ, ◌≡◌, ◌+◌, ◌<◌, ◌≤◌, Bool, true, false, nat_lt, if◌then◌else◌, List, length, map, slice_get, Option, Some, None}
use Rattle.std.specs.List.{list_any}
use Rattle.arbac_laws.specs.Needs.{Need}
use Rattle.arbac_laws.specs.Orders.{need_before}
use Rattle.arbac_laws.specs.PreImages.{is_empty}
use Rattle.arbac_laws.specs.NormalForms.{bare_hits, sort_by, normal_need, AreFormPlaces}

-- the items before the place are before this one, and the item at the place is not
pub record IsSpot {A : Type 0} (before : A → A → Bool) (x : A) (ys : List A) (at : ℕ) : Type 0 where
  pub within : at ≤ length ys
  pub earlier : (k : ℕ) (y : A) → k < at → slice_get ys k ≡ Some y → before y x ≡ true
  pub here : (y : A) → slice_get ys at ≡ Some y → before y x ≡ false

-- where a place goes when an item is put in: those from the item's place on go one further
abbrev pub moved : ℕ → ℕ → ℕ
moved at place = if nat_lt place at then place else place + 1

-- the users in normal form, sorted, and where each of them went
pub record IsPlaced (needs form : List Need) (places : List ℕ) : Type 0 where
  pub sorted : form ≡ sort_by need_before (map normal_need needs)
  pub stand : AreFormPlaces needs form places

-- the normal form of one user requirement; none where a hit is empty without the lacks
abbrev pub user_form : Need → Option Need
user_form need = if list_any is_empty (bare_hits need) then None else Some (normal_need need)
