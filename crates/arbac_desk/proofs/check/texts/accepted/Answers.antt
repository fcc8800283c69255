use Rattle.std.proofs.Common.{append_assoc}
use Rattle.arbac_desk.specs.CheckTexts.{accepted_text}
use Rattle.arbac_desk.proofs.check.texts.accepted.Goals as goal

-- the pieces, in their order, are the text
pub returns : goal.returns
unfolding accepted_text
returns c = rw (c.in_ok-put-3.ensures, c.in_ok-put-2.ensures, c.kind_word.ensures, c.in_ok-put.ensures, c.new-text.ensures.items) (simp append_assoc)
