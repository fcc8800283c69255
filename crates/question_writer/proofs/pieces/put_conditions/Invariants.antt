use Rattle.std.proofs.Common.{◌≡◌, ◌++◌, drop, map}
use Rattle.std.specs.Prelude.{codes}
use Rattle.std.specs.List.{join_by}
use Rattle.arbac_policy.specs.Truth.{term_of}
use Rattle.question_writer.specs.Texts.{condition_text}
use Rattle.question_writer.proofs.PieceLemmas.{joined_from}
use Rattle.question_writer.proofs.pieces.put_conditions.Given as goal

abbrev pub invariant-loop-place : goal.invariant-loop-place
invariant-loop-place l =
    l.text.items ++ joined_from (condition_text l.order.names) l.place (drop l.place (map term_of l.conds)) ≡ l.initial.text.items ++ join_by
    (condition_text l.order.names) (codes ", ") (map term_of l.conds)
