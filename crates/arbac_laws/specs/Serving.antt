-- Profiles whose users meet a requirement, one by one.
use Rattle.std.specs.Prelude.{ℕ, ◌≡◌, ◌⊎◌, ◌↔◌, List, length, map, Contains, get_or, slice_get, Option, Some}
use Rattle.arbac_policy.specs.declared.profile.Profile.{Profile}
use Rattle.arbac_policy.specs.Goals.{IsDrawnChoice}
use Rattle.arbac_laws.specs.Needs.{Need, MeetsNeed}
use Rattle.hall_match.specs.Matchings.{IsBefore, IsDeficient}

-- users of the profile at the place meet the user requirement
abbrev pub IsServed : List Profile → Need → ℕ → Type 0
IsServed profiles need place = (profile : Profile) × (slice_get profiles place ≡ Some profile) × MeetsNeed need profile.set

-- a choice that can be drawn, with a profile for each user requirement, whose users meet it
pub record Serves (profiles : List Profile) (needs : List Need) (choice : List ℕ) : Type 0 where
  pub drawn : IsDrawnChoice profiles choice
  pub long : length choice ≡ length needs
  pub each : (i : ℕ) (need : Need) → slice_get needs i ≡ Some need → IsServed profiles need (get_or choice i 0)

-- it is before any other such choice
pub record ServesLeast (profiles : List Profile) (needs : List Need) (choice : List ℕ) : Type 0 where
  pub serves : Serves profiles needs choice
  pub least : (other : List ℕ) → Serves profiles needs other → (other ≡ choice) ⊎ IsBefore choice other

-- how many users of each profile there are at most
abbrev pub counts : List Profile → List (Option ℕ)
counts profiles = map (λ profile. profile.most) profiles

-- the pairs of a user requirement's place and the place of a profile whose users meet it
abbrev pub AreServing : List Profile → List Need → List (ℕ × ℕ) → Type 0
AreServing profiles needs pairs = (k place : ℕ) → Contains pairs (k, place) ↔
    ((need : Need) × (slice_get needs k ≡ Some need) × IsServed profiles need place)

-- user requirements that are more than the users of all the profiles that serve one of them
abbrev pub AreUnserved : List Profile → List Need → List ℕ → Type 0
AreUnserved profiles needs items = (pairs : List (ℕ × ℕ)) × AreServing profiles needs pairs
    × IsDeficient (length needs) (counts profiles) pairs items
