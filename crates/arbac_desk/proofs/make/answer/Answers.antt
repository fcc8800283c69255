use Rattle.arbac_desk.proofs.MakeLemmas.{made, make_known}
use Rattle.arbac_desk.proofs.make.answer.Goals as goal

-- what was written of the reply
pub returns-clause-answer : goal.returns-clause-answer
returns-clause-answer g c = made c.args.size c.args.limit _ _ c.reply_of-reply.result _ c.reply_of-reply.ensures c.say_reply.ensures

-- its status stands in the table
pub returns-clause-known : goal.returns-clause-known
returns-clause-known g c = make_known c.args.size c.args.limit _ _ _ (returns-clause-answer g c)
