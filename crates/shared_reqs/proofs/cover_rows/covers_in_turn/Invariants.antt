use Rattle.shared_reqs.specs.Shared.{needs_shared}
use Rattle.shared_reqs.specs.CoverRows.{ArePlacedIn}
use Rattle.shared_reqs.proofs.cover_rows.covers_in_turn.Given as goal

abbrev pub invariant-loop-user : goal.invariant-loop-user
invariant-loop-user l = ArePlacedIn (needs_shared l.users) (needs_shared l.others) l.user-index l.taken
