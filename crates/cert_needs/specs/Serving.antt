-- Which profiles serve users, by tests.
use Rattle.std.specs.Prelude.{ℕ, ◌≡◌, ◌==◌, Bool, true, ◌&&◌, not, List, Option, Some, None}
use Rattle.std.specs.List.{list_all}
use Rattle.role_order.specs.Roles.{have_common}
use Rattle.arbac_policy.specs.declared.conjunct.Conjunct.{Conjunct}
use Rattle.arbac_policy.specs.declared.profile.Profile.{Profile}
use Rattle.arbac_laws.specs.Needs.{Need}
use Rattle.arbac_laws.specs.Views.{need_of}

-- the set has none of the lacks, and a role of each hit
abbrev pub meets_need : Need → List ℕ → Bool
meets_need need set = not (have_common need.lacks set) && list_all (λ hit. have_common hit set) need.hits

-- the number isn't 0
abbrev pub has_users : Option ℕ → Bool
has_users None = true
has_users (Some most) = not (most == 0)

-- there may be users of the profile, and they meet the requirement
abbrev pub serves_need : Profile → Need → Bool
serves_need profile need = has_users profile.most && meets_need need profile.set

-- users of the profile meet the requirement
abbrev pub IsMeeting : Conjunct → Profile → Type 0
IsMeeting user profile = meets_need (need_of user) profile.set ≡ true
