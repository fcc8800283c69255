-- An index of requirements.
use Rattle.std.specs.Prelude.{ℕ, ◌≡◌, ◌<◌, ◌⊎◌, List, length, slice_get, Some}
use Rattle.role_order.specs.Graph.{Graph}
use Rattle.arbac_laws.specs.Needs.{Need, Covers}
use Rattle.need_marks.specs.declared.marks.NeedMark.{NeedMark}
use Rattle.need_marks.specs.Marks.{IsNeedMark}

-- requirements in the order in which they were added, and the role order by which they are marked
pub record Indexed : Type 0 where
  pub order : Graph
  pub members : List (List Need)

-- the marks are those of the members, one by one
pub record AreMarked (order : Graph) (members : List (List Need)) (marks : List NeedMark) : Type 0 where
  pub long : length marks ≡ length members
  pub each : (place : ℕ) (needs : List Need) (mark : NeedMark) → slice_get members place ≡ Some needs → slice_get marks place ≡ Some mark
      → IsNeedMark order needs mark

-- the member at the place covers the requirement, and is different or stands before the end
pub record CoversAt (members : List (List Need)) (raw : List Need) (end place : ℕ) : Type 0 where
  pub needs : List Need
  pub at : slice_get members place ≡ Some needs
  pub covers : Covers needs raw
  pub apart : ¬ (needs ≡ raw) ⊎ (place < end)

-- some member does
abbrev pub IsCoveredBy : List (List Need) → List Need → ℕ → Type 0
IsCoveredBy members raw end = (place : ℕ) × CoversAt members raw end place

-- the member at the other place covers the one at this place, and is different or stands before it
pub record BeatsAt (members : List (List Need)) (place other : ℕ) : Type 0 where
  pub by : List Need
  pub by_is : slice_get members other ≡ Some by
  pub beaten : List Need
  pub beaten_is : slice_get members place ≡ Some beaten
  pub covers : Covers by beaten
  pub apart : ¬ (by ≡ beaten) ⊎ (other < place)
