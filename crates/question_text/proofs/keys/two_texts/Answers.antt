use Rattle.std.proofs.Common.{arith, sym}
use Rattle.question_text.proofs.KeyLemmas.{not_two}
use Rattle.question_text.proofs.keys.two_texts.Goals as goal

pub returns-then-len-ne2 : goal.returns-then-len-ne2
returns-then-len-ne2 c =
    let list = c.in_ok-list.list.now in
    rw (← c.in_ok-list.ensures) (sym (not_two list.items c.len.result (omega (arith, list.ok.0)) c.if-len-ne2.true))
