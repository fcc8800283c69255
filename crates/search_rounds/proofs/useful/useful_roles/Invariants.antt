use Rattle.std.proofs.Common.{take}
use Rattle.shared_reqs.specs.Shared.{needs_shared}
use Rattle.search_rounds.specs.Listing.{AreUseful}
use Rattle.search_rounds.proofs.useful.useful_roles.Given as goal

abbrev pub invariant-loop-user : goal.invariant-loop-user
invariant-loop-user l = AreUseful (take l.user-index (needs_shared l.users)) (record { given = l.given; taken = l.taken })
