-- Counts of users by set, as they grow with each user.
use Rattle.std.specs.Prelude.{ℕ, ◌≡◌, ◌≤◌, ◌<◌, ◌+◌, ◌^◌, if◌then◌else◌, List, [], ◌∷◌, Option, Some, None}
use Rattle.std.specs.Str.{bytes_eq}
use Rattle.list_words.specs.Lists.{Each}
use Rattle.role_order.specs.Orders.{set_before}
use Rattle.arbac_policy.specs.declared.profile.Profile.{Profile}
use Rattle.profile_set.specs.Groups.{RiseBySet, holders}

-- how many users a profile counts
abbrev pub number_of : Option ℕ → ℕ
number_of None = 0
number_of (Some most) = most

-- how many users of the set the profiles count
abbrev pub tally : List ℕ → List Profile → ℕ
tally set [] = 0
tally set (profile ∷ profiles) = (if bytes_eq profile.set set then number_of profile.most else 0) + tally set profiles

-- the profile counts some users, and has room for one more
abbrev pub IsCounted : Profile → Type 0
IsCounted profile = (count : ℕ) × (profile.most ≡ Some count) × (1 ≤ count)

-- one more user can be counted in 32 bits
abbrev pub HasRoom : Profile → Type 0
HasRoom profile = number_of profile.most + 1 < 2 ^ 32

-- the profiles rise, and count the members of each set
pub record IsTally (members : List (List ℕ)) (profiles : List Profile) : Type 0 where
  pub rise : RiseBySet profiles
  pub counted : Each IsCounted profiles
  pub tallies : (set : List ℕ) → tally set profiles ≡ holders set members

-- the profile with one more user
abbrev pub with_one : Profile → Profile
with_one profile = record { set = profile.set; most = Some (number_of profile.most + 1) }

-- the set's profile with one user
abbrev pub first_of : List ℕ → Profile
first_of set = record { set = set; most = Some 1 }

-- with one more user of the set
abbrev pub with_member : List Profile → List ℕ → List Profile
with_member [] set = first_of set ∷ []
with_member (profile ∷ profiles) set =
    if set_before profile.set set then profile ∷ with_member profiles set
    else if set_before set profile.set then first_of set ∷ profile ∷ profiles
    else with_one profile ∷ profiles
