use Rattle.std.proofs.Common.{refl}
use Rattle.role_order.specs.Names.{texts}
use Rattle.arbac_desk.specs.Commands.{form_of}
use Rattle.arbac_desk.proofs.AnswerLemmas.{usage_known}
use Rattle.arbac_desk.proofs.CommandLemmas.{formed, words_within, answer_as, answer_lost}
use Rattle.arbac_desk.proofs.desk.answer.Goals as goal

-- the numbers that the words tell are within their limits
pub answer_command-requires : goal.answer_command-requires
answer_command-requires g c =
    words_within (texts c.args.words.now) (form_of c.in-Ok-Some.command) (rw c.in-Ok-Some.field-0-is at c.in-Ok-Some.ensures.found)

-- words are of one form at most
pub returns-in-Ok-Some-clause-answer : goal.returns-in-Ok-Some-clause-answer
returns-in-Ok-Some-clause-answer g c =
    answer_as (texts c.args.words.now) (form_of c.in-Ok-Some.command) (g.H.Shelf.seen c.args.shelf.now) (g.H.Shelf.seen c.answer_command.new.shelf)
    (g.O.Sink.seen c.args.out.now) (g.O.Sink.seen c.answer_command.new.out) c.answer_command.result
    (rw c.in-Ok-Some.field-0-is at c.in-Ok-Some.ensures.found) c.answer_command.ensures.answer

-- the status of the usage line stands in the table
pub returns-in-Ok-None-clause-known : goal.returns-in-Ok-None-clause-known
returns-in-Ok-None-clause-known g c =
    usage_known (g.H.Shelf.seen c.args.shelf.now) (g.H.Shelf.seen c.args.shelf.now) (g.O.Sink.seen c.args.out.now) (g.O.Sink.seen c.say.new.out) c.say.result
    (record { unasked = refl; says = rw (c.as_bytes.ensures.value, c.usage.ensures) at c.say.ensures })

-- whether they are of one doesn't hang on memory
pub returns-in-Err-clause-formed : goal.returns-in-Err-clause-formed
returns-in-Err-clause-formed g c = formed (texts c.args.words.now)

-- nothing was asked, and nothing written
pub returns-in-Err-clause-answer : goal.returns-in-Err-clause-answer
returns-in-Err-clause-answer g c = λ form words. answer_lost (g.H.Shelf.seen c.args.shelf.now) (g.O.Sink.seen c.args.out.now) form

-- want of memory stands in the table
pub returns-in-Err-clause-known : goal.returns-in-Err-clause-known
returns-in-Err-clause-known g c = (5, refl)
