use Rattle.std.proofs.Common.{◌≡◌, take}
use Rattle.role_order.specs.Names.{texts}
use Rattle.role_order.proofs.order.copy_names.Given as goal

abbrev pub invariant-loop-name : goal.invariant-loop-name
invariant-loop-name l = texts l.copy.items ≡ take l.name-index (texts l.names)
