use Rattle.std.proofs.Common.{append_assoc}
use Rattle.arbac_desk.specs.ReplayTexts.{done_text}
use Rattle.arbac_desk.proofs.replay.texts.done.Goals as goal

-- the pieces, in their order, are the text
pub returns : goal.returns
unfolding done_text
returns c = rw (
  c.in_ok-put-2.ensures,
  c.in_ok-put_goal_lines.ensures,
  c.in_ok-put_user_lines.ensures,
  c.in_ok-put.ensures,
  c.new-text.ensures.items,
) (simp append_assoc)
