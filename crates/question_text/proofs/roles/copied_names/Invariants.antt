use Rattle.std.proofs.Common.{◌≡◌, take}
use Rattle.role_order.specs.Names.{texts}
use Rattle.question_text.proofs.roles.copied_names.Given as goal

abbrev pub invariant-loop-role : goal.invariant-loop-role
invariant-loop-role l = texts l.names.items ≡ take l.role l.order.names
