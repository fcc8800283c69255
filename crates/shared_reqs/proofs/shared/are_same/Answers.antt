use Rattle.shared_reqs.specs.Shared.{needs_shared}
use Rattle.shared_reqs.proofs.SharedLemmas.{same_more}
use Rattle.shared_reqs.proofs.shared.are_same.Goals as goal

-- one user more is the same
pub loop-at-preserved : goal.loop-at-preserved
loop-at-preserved c =
    let users = needs_shared c.args.users.now in
    let others = needs_shared c.args.others.now in
    same_more users others c.loop-at.at c.user_at.result.now c.user_at-in-loop-at.result.now c.user_at.ensures c.user_at-in-loop-at.ensures
    (c.is_same.ensures.0 c.if-not-is_same.false) c.loop-at.invariant
