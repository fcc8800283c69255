use Rattle.std.proofs.Common.{◌≡◌, drop}
use Rattle.arbac_laws.specs.Orders.{hits_before}
use Rattle.cert_needs.proofs.forms.hits_are_before.Given as goal

-- what is left decides
abbrev pub invariant-loop-at : goal.invariant-loop-at
invariant-loop-at l = hits_before (drop l.at l.hits) (drop l.at l.others) ≡ hits_before l.hits l.others
