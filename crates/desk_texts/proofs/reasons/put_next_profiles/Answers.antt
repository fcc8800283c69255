use Rattle.std.proofs.Common.{◌++◌, get_or}
use Rattle.std.proofs.lemmas.Option.{slice_get-get_or}
use Rattle.std.specs.List.{flat_map}
use Rattle.text_pieces.proofs.PieceLemmas.{flat_step, flat_end}
use Rattle.desk_texts.specs.Reasons.{next_profile}
use Rattle.desk_texts.proofs.reasons.put_next_profiles.Goals as goal

-- the profile is the next piece
pub loop-profile-preserved : goal.loop-profile-preserved
loop-profile-preserved c = flat_step next_profile c.args.profiles.now c.loop-profile.profile-index (get_or c.args.profiles.now c.loop-profile.profile-index 0)
    c.loop-profile.text.items c.put_count.new.text.items (c.args.text.now.items ++ flat_map next_profile c.args.profiles.now)
    (slice_get-get_or c.args.profiles.now c.loop-profile.profile-index 0 c.loop-profile-test.true) c.loop-profile.invariant c.in_ok-put_count.ensures

-- behind the last profile nothing is left
pub returns : goal.returns
returns c = flat_end next_profile c.args.profiles.now c.loop-profile.profile-index c.loop-profile.text.items
    (c.args.text.now.items ++ flat_map next_profile c.args.profiles.now) c.loop-profile-test.false c.loop-profile.invariant
