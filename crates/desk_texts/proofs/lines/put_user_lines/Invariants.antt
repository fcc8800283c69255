use Rattle.std.proofs.Common.{◌≡◌, ◌++◌, drop}
use Rattle.text_pieces.specs.Pieces.{pieces_from}
use Rattle.desk_texts.specs.Lines.{user_line, user_lines}
use Rattle.desk_texts.proofs.lines.put_user_lines.Given as goal

-- what is written, and the lines from the place on, are the whole
abbrev pub invariant-loop-place : goal.invariant-loop-place
invariant-loop-place l =
    l.text.items ++ pieces_from (user_line l.order.names) l.place (drop l.place l.sets) ≡ l.initial.text.items ++ user_lines l.order.names l.sets
