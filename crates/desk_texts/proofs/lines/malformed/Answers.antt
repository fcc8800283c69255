use Rattle.std.proofs.Common.{append_assoc}
use Rattle.desk_texts.specs.Lines.{malformed_line}
use Rattle.desk_texts.proofs.lines.malformed.Goals as goal

-- the pieces, in their order, are the line
pub returns : goal.returns
unfolding malformed_line
returns g c = rw (
  c.in_ok-put-5.ensures,
  c.in_ok-put-4.ensures,
  c.in_ok-put-3.ensures,
  c.in_ok-put-2.ensures,
  c.in_ok-put.ensures,
  c.new-text.ensures.items,
) (simp append_assoc)
