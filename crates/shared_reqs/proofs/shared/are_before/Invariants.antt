use Rattle.std.proofs.Common.{◌≡◌, drop}
use Rattle.list_words.specs.Orders.{list_before}
use Rattle.arbac_laws.specs.Orders.{need_before}
use Rattle.shared_reqs.specs.Shared.{needs_shared}
use Rattle.shared_reqs.proofs.shared.are_before.Given as goal

-- what is left decides
abbrev pub invariant-loop-at : goal.invariant-loop-at
invariant-loop-at l =
    list_before need_before (drop l.at (needs_shared l.users)) (drop l.at (needs_shared l.others))
    ≡ list_before need_before (needs_shared l.users) (needs_shared l.others)
