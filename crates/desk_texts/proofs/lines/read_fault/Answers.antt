use Rattle.std.proofs.Common.{append_assoc}
use Rattle.desk_texts.specs.Lines.{read_fault_line}
use Rattle.desk_texts.proofs.lines.read_fault.Goals as goal

-- the pieces, in their order, are the line
pub returns : goal.returns
unfolding read_fault_line
returns c = rw (c.in_ok-put-3.ensures, c.in_ok-put-2.ensures, c.in_ok-put.ensures, c.new-text.ensures.items) (simp append_assoc)
