use Rattle.arbac_desk.proofs.AskLemmas.{fault_answered}
use Rattle.arbac_desk.proofs.ask.ask_document.Goals as goal

-- the first fault is answered
pub returns-in-Err : goal.returns-in-Err
returns-in-Err g c = fault_answered c.args.limit c.args.document.now c.in-Err.error c.fault_answer.result c.in-Err.ensures.fault c.fault_answer.ensures
