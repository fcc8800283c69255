use Rattle.arbac_desk.proofs.MakeLemmas.{make_faults}
use Rattle.arbac_desk.proofs.desk.answer_command.Goals as goal

-- the numbers are within their limits
pub answer-requires-in-Ask-clause-some : goal.answer-requires-in-Ask-clause-some
answer-requires-in-Ask-clause-some g c = let within = rw c.in-Ask.is at c.requires in within.0.0

-- each command has its own answer
pub returns-in-Check-clause-answer : goal.returns-in-Check-clause-answer
returns-in-Check-clause-answer g c = rw c.in-Check.is c.answer-in-Check.ensures.answer

-- each command has its own answer
pub returns-in-Ask-clause-answer : goal.returns-in-Ask-clause-answer
returns-in-Ask-clause-answer g c = rw c.in-Ask.is c.answer-in-Ask.ensures.answer

-- the shelf isn't asked
pub returns-in-Make-clause-faults : goal.returns-in-Make-clause-faults
returns-in-Make-clause-faults g c =
    make_faults c.in-Make.size c.in-Make.limit (g.H.Shelf.seen c.args.shelf.now) _ _ _ c.answer-in-Make.ensures.answer
