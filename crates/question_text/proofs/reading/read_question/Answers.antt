use Rattle.question_text.proofs.ReadLemmas.{value_of, kept_of, error_of, only_of, told_of}
use Rattle.question_text.proofs.SoleLemmas.{sole_document}
use Rattle.question_text.proofs.reading.read_question.Goals as goal

pub returns-clause-value : goal.returns-clause-value
returns-clause-value c = value_of c.args.need_goal c.args.bytes.now c.read.result c.read.ensures

pub returns-clause-kept : goal.returns-clause-kept
returns-clause-kept c = kept_of c.args.need_goal c.args.bytes.now c.read.result c.read.ensures

pub returns-clause-fault : goal.returns-clause-fault
returns-clause-fault c = error_of c.args.need_goal c.args.bytes.now c.read.result c.read.ensures

pub returns-clause-only : goal.returns-clause-only
returns-clause-only c = only_of c.args.need_goal c.args.bytes.now c.read.result c.read.ensures

pub returns-clause-told : goal.returns-clause-told
returns-clause-told c = told_of c.args.need_goal c.args.bytes.now c.read.result c.read.ensures

pub returns-clause-one : goal.returns-clause-one
returns-clause-one c = sole_document c.args.need_goal c.args.bytes.now
