use Rattle.std.proofs.lemmas.Result.{err_from_is_err_and}
use Rattle.arbac_desk.proofs.QuestionLemmas.{shown}
use Rattle.arbac_desk.proofs.ask.answer_document.Goals as goal

-- the certificate shows how the question stands
pub returns-clause-answer : goal.returns-clause-answer
returns-clause-answer g c =
    let answer = c.in_ok-told.ensures in
    record {
      question = c.in_ok-question.question;
      is_question = record {
        stands = c.in_ok-question.ensures.value;
        only = c.in_ok-question.ensures.only;
        keeps = c.in_ok-question.ensures.kept;
      };
      answer = answer;
      shows = shown _ answer.cert (c.closed_list_law.ensures _ c.in_ok-question.ensures.kept.order.ends) answer.has;
    }

-- the error is the first fault, unless it is want of memory
pub returns-in_err-question-clause-fault : goal.returns-in_err-question-clause-fault
returns-in_err-question-clause-fault g c =
    let p = err_from_is_err_and c.from_residual.result c.from_residual.ensures.1 in
    rw (p.1, p.2) (λ told. record {
      first = c.in_err-question.ensures.fault;
      told = told;
      none = λ value stands. told (c.in_err-question.ensures.only value stands);
    })
