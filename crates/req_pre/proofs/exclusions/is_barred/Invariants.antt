use Rattle.std.proofs.Common.{◌≡◌, drop}
use Rattle.arbac_laws.specs.PreImages.{is_barred}
use Rattle.req_pre.proofs.exclusions.is_barred.Given as goal

-- what is left decides
abbrev pub invariant-loop-pair : goal.invariant-loop-pair
invariant-loop-pair l = is_barred l.order l.role (drop l.pair-index l.pairs) ≡ is_barred l.order l.role l.pairs
