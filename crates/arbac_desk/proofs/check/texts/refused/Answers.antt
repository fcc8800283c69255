use Rattle.std.proofs.Common.{append_assoc}
use Rattle.arbac_desk.specs.CheckTexts.{refused_text}
use Rattle.arbac_desk.proofs.check.texts.refused.Goals as goal

-- the pieces, in their order, are the text
pub returns : goal.returns
unfolding refused_text
returns c = rw (c.in_ok-put-2.ensures, c.in_ok-put_why.ensures, c.in_ok-put.ensures, c.new-text.ensures.items) (simp append_assoc)
