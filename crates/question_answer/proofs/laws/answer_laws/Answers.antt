use Rattle.question_answer.proofs.AnswerLemmas.{answer_has, one_answer}
use Rattle.question_answer.proofs.laws.answer_laws.Goals as goal

pub returns : goal.returns
returns c = record { one = one_answer; has = answer_has }
