use Rattle.std.proofs.Common.{◌≡◌, take}
use Rattle.arbac_laws.specs.Views.{needs_of}
use Rattle.cert_needs.proofs.forms.are_same.Given as goal

abbrev pub invariant-loop-at : goal.invariant-loop-at
invariant-loop-at l = needs_of (take l.at l.users) ≡ needs_of (take l.at l.others)
