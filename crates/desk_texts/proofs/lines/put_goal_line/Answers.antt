use Rattle.std.proofs.Common.{append_assoc}
use Rattle.desk_texts.specs.Lines.{goal_line}
use Rattle.desk_texts.proofs.lines.put_goal_line.Goals as goal

-- the pieces, in their order, are the line
pub returns : goal.returns
unfolding goal_line
returns c = rw (c.in_ok-put.ensures, c.in_ok-put_count-2.ensures, c.in_ok-put_count.ensures) (simp append_assoc)
