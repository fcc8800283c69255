use Rattle.std.proofs.Common.{append_assoc}
use Rattle.desk_texts.proofs.reasons.put_step_refused.Goals as goal

-- the pieces, in their order, are the text
pub returns : goal.returns
returns c = rw (c.in_ok-put_part.ensures, c.in_ok-put.ensures, c.in_ok-put_count.ensures) (simp append_assoc)
