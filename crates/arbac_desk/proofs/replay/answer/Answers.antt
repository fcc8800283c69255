use Rattle.arbac_desk.specs.ReplayAnswers.{IsReplyTo}
use Rattle.arbac_desk.proofs.FileLemmas.{answered, file_faults, file_known}
use Rattle.arbac_desk.proofs.ReplayLemmas.{are_replies}
use Rattle.arbac_desk.proofs.replay.answer.Goals as goal

-- what was asked of the shelf, and what was written of the reply
pub returns-clause-answer : goal.returns-clause-answer
returns-clause-answer g c =
    answered (IsReplyTo c.args.run.now) c.args.run.now (g.H.Shelf.seen c.args.shelf.now) (g.H.Shelf.seen c.reply_from-reply.new.shelf) _ _
    c.reply_from-reply.result _ c.reply_from-reply.ensures.asked c.reply_from-reply.ensures.reply c.say_reply.ensures

-- it tells its faults
pub returns-clause-faults : goal.returns-clause-faults
returns-clause-faults g c = file_faults _ _ _ (are_replies c.args.run.now) c.args.run.now _ _ _ _ _ (returns-clause-answer g c)

-- its status stands in the table
pub returns-clause-known : goal.returns-clause-known
returns-clause-known g c = file_known _ _ _ (are_replies c.args.run.now) c.args.run.now _ _ _ _ _ (returns-clause-answer g c)
