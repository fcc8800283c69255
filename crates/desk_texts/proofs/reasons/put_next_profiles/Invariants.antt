use Rattle.std.proofs.Common.{◌≡◌, ◌++◌, drop}
use Rattle.std.specs.List.{flat_map}
use Rattle.desk_texts.specs.Reasons.{next_profile}
use Rattle.desk_texts.proofs.reasons.put_next_profiles.Given as goal

-- what is written, and the profiles that are left, are the whole
abbrev pub invariant-loop-profile : goal.invariant-loop-profile
invariant-loop-profile l =
    l.text.items ++ flat_map next_profile (drop l.profile-index l.profiles) ≡ l.initial.text.items ++ flat_map next_profile l.profiles
