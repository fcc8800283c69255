use Rattle.std.proofs.Common.{arith}
use Rattle.std.specs.Prelude.{slice_index_or}
use Rattle.list_words.proofs.GetLemmas.{get_at}
use Rattle.profile_set.proofs.DrawLemmas.{profiles_more}
use Rattle.profile_set.proofs.choice.first_unknown.Goals as goal

-- the number at the place is a profile too
pub loop-at-preserved : goal.loop-at-preserved
loop-at-preserved c =
    let at = c.loop-at.at in
    let xs = c.args.choice.now in
    profiles_more c.args.profiles.now xs at (slice_index_or xs at 0) (get_at xs at 0 (omega arith)) c.loop-at.invariant (omega arith)
