use Rattle.std.proofs.Common.{append_assoc}
use Rattle.desk_texts.specs.Lines.{user_line}
use Rattle.desk_texts.proofs.lines.put_user_line.Goals as goal

-- the pieces, in their order, are the line
pub returns : goal.returns
unfolding user_line
returns c = rw (c.in_ok-put.ensures, c.in_ok-put_held_names.ensures, c.in_ok-put_count.ensures) (simp append_assoc)
