use Rattle.std.proofs.Common.{refl}
use Rattle.desk_texts.specs.Faults.{question_fault}
use Rattle.desk_texts.proofs.faults.put_question_fault.Goals as goal

-- the word and the key are the fault's text
pub returns-in_ok-put_key-in-UnknownRole : goal.returns-in_ok-put_key-in-UnknownRole
unfolding question_fault
returns-in_ok-put_key-in-UnknownRole c = rw (c.in-UnknownRole.is, c.in_ok-put_key-in-UnknownRole.ensures, c.deref-in-UnknownRole.ensures) refl

-- the word and the key are the fault's text
pub returns-in_ok-put_key-in-UnknownKey : goal.returns-in_ok-put_key-in-UnknownKey
unfolding question_fault
returns-in_ok-put_key-in-UnknownKey c = rw (c.in-UnknownKey.is, c.in_ok-put_key-in-UnknownKey.ensures, c.deref-in-UnknownKey.ensures) refl
