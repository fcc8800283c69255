use Rattle.std.proofs.Common.{◌≡◌, drop}
use Rattle.arbac_laws.specs.PreImages.{barred}
use Rattle.req_pre.proofs.exclusions.barred.Given as goal

abbrev pub invariant-loop-at : goal.invariant-loop-at
invariant-loop-at l = l.all ≡ barred l.order l.role (drop l.at l.pairs)
