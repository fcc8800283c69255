-- Users grouped by their sets.
use Rattle.std.specs.Prelude.{ℕ, ◌≡◌, ◌≤◌, ◌+◌, true, if◌then◌else◌, List, [], ◌∷◌, Some}
use Rattle.std.specs.Str.{bytes_eq}
use Rattle.list_words.specs.Lists.{Each, Some_of}
use Rattle.role_order.specs.Orders.{set_before}
use Rattle.arbac_policy.specs.declared.profile.Profile.{Profile}

-- how many of the members have the set
abbrev pub holders : List ℕ → List (List ℕ) → ℕ
holders set [] = 0
holders set (member ∷ members) = (if bytes_eq member set then 1 else 0) + holders set members

-- the sets of the profiles rise strictly
abbrev pub RiseBySet : List Profile → Type 0
RiseBySet [] = Unit {0}
RiseBySet (profile ∷ profiles) = Each (λ later. set_before profile.set later.set ≡ true) profiles × RiseBySet profiles

-- the different sets of the members in their order, each as a profile that counts who has it
pub record IsGroup (members : List (List ℕ)) (profiles : List Profile) : Type 0 where
  pub rise : RiseBySet profiles
  pub counts : Each (λ profile. (profile.most ≡ Some (holders profile.set members)) × (1 ≤ holders profile.set members)) profiles
  pub all : Each (λ set. Some_of (λ profile. profile.set ≡ set) profiles) members
