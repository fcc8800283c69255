use Rattle.std.proofs.Common.{◌≡◌, ◌++◌, drop}
use Rattle.std.specs.List.{flat_map}
use Rattle.question_writer.specs.Texts.{profile_text}
use Rattle.question_writer.proofs.writing.put_profiles.Given as goal

abbrev pub invariant-loop-profile : goal.invariant-loop-profile
invariant-loop-profile l =
    l.text.items ++ flat_map (profile_text l.order.names) (drop l.profile-index l.profiles) ≡ l.initial.text.items ++ flat_map
    (profile_text l.order.names) l.profiles
