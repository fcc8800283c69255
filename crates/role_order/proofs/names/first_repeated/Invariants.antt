use Rattle.std.proofs.Common.{take}
use Rattle.role_order.specs.Names.{texts}
use Rattle.list_words.specs.Lists.{AreDifferent}
use Rattle.role_order.proofs.names.first_repeated.Given as goal

abbrev pub invariant-loop-at : goal.invariant-loop-at
invariant-loop-at l = AreDifferent (take l.at (texts l.names))
