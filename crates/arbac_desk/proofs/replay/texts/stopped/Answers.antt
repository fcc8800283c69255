use Rattle.std.proofs.Common.{append_assoc}
use Rattle.arbac_desk.specs.ReplayTexts.{stopped_text}
use Rattle.arbac_desk.proofs.replay.texts.stopped.Goals as goal

-- the pieces, in their order, are the text
pub returns : goal.returns
unfolding stopped_text
returns c = rw (c.in_ok-put-2.ensures, c.in_ok-put_part.ensures, c.in_ok-put.ensures, c.in_ok-put_count.ensures, c.new-text.ensures.items) (simp append_assoc)
