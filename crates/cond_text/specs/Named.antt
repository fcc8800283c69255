-- What written names, ranges and conditions stand for under the names of roles.
use Rattle.std.specs.Prelude.{ℕ, ◌≡◌, ◌⊎◌, List, [], ◌∷◌, fold, Some, None}
use Rattle.role_order.specs.declared.range.Range.{Range}
use Rattle.role_order.specs.Names.{place_of}
use Rattle.role_order.specs.Roles.{with_role}
use Rattle.arbac_policy.specs.Truth.{Term}
use Rattle.cond_text.specs.Ranges.{NamedRange}
use Rattle.cond_text.specs.Reading.{StandsFor, IsFaultless}

-- the name is that of the role
abbrev pub Names : List (List ℕ) → List ℕ → ℕ → Type 0
Names names name role = place_of names name ≡ Some role

-- the name is that of no role
abbrev pub IsUnknown : List (List ℕ) → List ℕ → Type 0
IsUnknown names name = place_of names name ≡ None

-- the names are those of the roles, one by one
abbrev pub NameEach : List (List ℕ) → List (List ℕ) → List ℕ → Type 0
NameEach names [] roles = roles ≡ []
NameEach names (word ∷ words) roles = (role : ℕ) × (more : List ℕ) × Names names word role × NameEach names words more × (roles ≡ role ∷ more)

-- the ends name those of the range, and are open where those are
pub record NamesRange (names : List (List ℕ)) (written : NamedRange) (range : Range) : Type 0 where
  pub low : Names names written.low range.low
  pub high : Names names written.high range.high
  pub low_open : written.low_open ≡ range.low_open
  pub high_open : written.high_open ≡ range.high_open

-- an end of the range is the name of no role
abbrev pub HasUnknownEnd : List (List ℕ) → NamedRange → Type 0
HasUnknownEnd names range = IsUnknown names range.low ⊎ IsUnknown names range.high

-- the text is a condition within the limits, and stands for the term
abbrev pub ReadsAs : List (List ℕ) → List ℕ → Term → Type 0
ReadsAs names text term = StandsFor names text term × IsFaultless names text

-- the set of these roles
abbrev pub set_of : List ℕ → List ℕ
set_of roles = fold with_role [] roles

-- the names are those of the set's roles
pub record NamesSet (names : List (List ℕ)) (words : List (List ℕ)) (set : List ℕ) : Type 0 where
  pub roles : List ℕ
  pub named : NameEach names words roles
  pub set_is : set ≡ set_of roles
