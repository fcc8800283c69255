use Rattle.std.proofs.Common.{◌≡◌, ◌++◌, drop}
use Rattle.std.specs.Prelude.{codes}
use Rattle.std.specs.List.{join_by}
use Rattle.question_writer.specs.Texts.{role_text}
use Rattle.question_writer.proofs.PieceLemmas.{joined_from}
use Rattle.question_writer.proofs.pieces.put_roles.Given as goal

abbrev pub invariant-loop-place : goal.invariant-loop-place
invariant-loop-place l =
    l.text.items ++ joined_from (role_text l.order.names) l.place (drop l.place (l.roles)) ≡ l.initial.text.items ++ join_by
    (role_text l.order.names) (codes ", ") (l.roles)
