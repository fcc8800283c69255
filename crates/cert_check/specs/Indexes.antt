-- An index of requirements.
use Rattle.std.specs.Prelude.{ℕ, ◌≡◌, ◌≤◌, List, length, slice_get, Some}
use Rattle.role_order.specs.Graph.{Graph}
use Rattle.arbac_laws.specs.Needs.{Need, Covers}
use Rattle.mask_match.specs.declared.TheConstants.{MOST_PLACES}
use Rattle.need_marks.specs.declared.marks.NeedMark.{NeedMark}
use Rattle.need_marks.specs.Marks.{IsNeedMark}

-- requirements in the order in which they were added, and the role order by which they are marked
pub record Indexed : Type 0 where
  pub order : Graph
  pub members : List (List Need)

-- the marks are those of the members, one by one
pub record AreMarked (order : Graph) (members : List (List Need)) (marks : List NeedMark) : Type 0 where
  pub long : length marks ≡ length members
  pub each : (place : ℕ) (needs : List Need) (mark : NeedMark) → slice_get members place ≡ Some needs → slice_get marks place ≡ Some mark
      → IsNeedMark order needs mark

-- the member at the place covers the requirement, which is on so few users that each has a bit
pub record CoversAt (members : List (List Need)) (raw : List Need) (place : ℕ) : Type 0 where
  pub needs : List Need
  pub at : slice_get members place ≡ Some needs
  pub few : length raw ≤ MOST_PLACES
  pub covers : Covers needs raw
