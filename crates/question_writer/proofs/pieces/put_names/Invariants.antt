use Rattle.std.proofs.Common.{◌≡◌, ◌++◌, drop}
use Rattle.std.specs.Prelude.{codes}
use Rattle.std.specs.List.{join_by}
use Rattle.question_writer.specs.Texts.{quoted}
use Rattle.question_writer.proofs.PieceLemmas.{joined_from}
use Rattle.question_writer.proofs.pieces.put_names.Given as goal

abbrev pub invariant-loop-role : goal.invariant-loop-role
invariant-loop-role l =
    l.text.items ++ joined_from (quoted) l.role (drop l.role (l.order.names)) ≡ l.initial.text.items ++ join_by (quoted) (codes ", ") (l.order.names)
