use Rattle.std.proofs.Common.{◌≡◌, ◌++◌, drop}
use Rattle.text_pieces.specs.Pieces.{pieces_from}
use Rattle.desk_texts.specs.Lines.{goal_line, goal_lines}
use Rattle.desk_texts.proofs.lines.put_goal_lines.Given as goal

-- what is written, and the lines from the place on, are the whole
abbrev pub invariant-loop-place : goal.invariant-loop-place
invariant-loop-place l = l.text.items ++ pieces_from goal_line l.place (drop l.place l.users) ≡ l.initial.text.items ++ goal_lines l.users
