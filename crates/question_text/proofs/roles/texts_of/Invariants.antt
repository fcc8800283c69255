use Rattle.std.proofs.Common.{take, Ok}
use Rattle.toml.specs.View.{array_view}
use Rattle.role_order.specs.Names.{texts}
use Rattle.question_text.specs.Keys.{entries, list_of}
use Rattle.question_text.specs.Roles.{a_text}
use Rattle.question_text.proofs.roles.texts_of.Given as goal

abbrev pub invariant-loop-place : goal.invariant-loop-place
invariant-loop-place l = entries a_text l.path (take l.place (list_of (array_view l.list))) (Ok (texts l.names.items))
