-- Why a choice of profiles is no drawn one.
use Rattle.std.specs.Prelude.{ℕ, ◌≡◌, ◌<◌, ◌≤◌, ◌⊎◌, Bool, true, false, nat_lt, List, Option, Some, None, length, take, slice_get}
use Rattle.arbac_policy.specs.declared.profile.Profile.{Profile}
use Rattle.arbac_policy.specs.Goals.{times, IsDrawnChoice}

-- the number is no profile, or its profile was used as often as its count
abbrev pub IsSpent : List Profile → ℕ → ℕ → Type 0
IsSpent profiles number used = (slice_get profiles number ≡ None) ⊎
    ((profile : Profile) × (most : ℕ) × (slice_get profiles number ≡ Some profile) × (profile.most ≡ Some most) × (most ≤ used))

-- the places before are a drawn choice, and those leave nothing of the number at this place
pub record IsFirstUndrawn (profiles : List Profile) (choice : List ℕ) (place : ℕ) : Type 0 where
  pub before : IsDrawnChoice profiles (take place choice)
  pub number : ℕ
  pub here : slice_get choice place ≡ Some number
  pub spent : IsSpent profiles number (times number (take place choice))

-- nothing is left of the number at the place, for what stands before it
abbrev pub IsSpentAt : List Profile → List ℕ → ℕ → Type 0
IsSpentAt profiles choice place = (number : ℕ) × (slice_get choice place ≡ Some number) × IsSpent profiles number (times number (take place choice))

-- each number of the choice is a profile
abbrev pub AreProfiles : List Profile → List ℕ → Type 0
AreProfiles profiles choice = (k number : ℕ) → slice_get choice k ≡ Some number → number < length profiles

-- of the profiles from one to below another none stands in the choice beyond its count
abbrev pub AreFew : List Profile → ℕ → ℕ → List ℕ → Type 0
AreFew profiles from to choice =
    (number : ℕ) (profile : Profile) (most : ℕ) → from ≤ number → number < to → slice_get profiles number ≡ Some profile
    → profile.most ≡ Some most
    → times number choice ≤ most

-- the places before are a drawn choice, and at this one, unless it is the end, nothing is left of the number
pub record IsDrawnUntil (profiles : List Profile) (choice : List ℕ) (place : ℕ) : Type 0 where
  pub within : place ≤ length choice
  pub drawn : IsDrawnChoice profiles (take place choice)
  pub spent : place < length choice → IsSpentAt profiles choice place

-- whether a profile with this count may be used once more
abbrev pub is_below : Option ℕ → ℕ → Bool
is_below None used = true
is_below (Some most) used = nat_lt used most

-- whether it is a profile that may be used once more
abbrev pub has_left : Option Profile → ℕ → Bool
has_left None used = false
has_left (Some profile) used = is_below profile.most used
