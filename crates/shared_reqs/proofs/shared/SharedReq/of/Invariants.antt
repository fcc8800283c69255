use Rattle.shared_reqs.specs.Shared.{marked_of}
use Rattle.shared_reqs.proofs.SharedLemmas.{AreMarkedFirst}
use Rattle.shared_reqs.proofs.shared.SharedReq.of.Given as goal

abbrev pub invariant-loop-user : goal.invariant-loop-user
invariant-loop-user l = AreMarkedFirst l.order l.all l.user-index (marked_of l.users.items)
