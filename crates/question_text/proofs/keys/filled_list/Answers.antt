use Rattle.std.proofs.Common.{arith, sym}
use Rattle.std.proofs.lemmas.Bool.Decides.{nat_tests}
use Rattle.question_text.proofs.KeyLemmas.{some_filled}
use Rattle.question_text.proofs.keys.filled_list.Goals as goal

pub returns-in-Some : goal.returns-in-Some
returns-in-Some c =
    let list = c.in-Some.list.now in
    rw (← c.in-Some.ensures)
    (sym (some_filled list.items c.in-Some.list.now.len (omega (arith, list.ok.0)) (grind (arith, nat_tests, c.is_empty.ensures, c.if-not-is_empty.true))))
