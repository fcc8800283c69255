use Rattle.arbac_desk.specs.CheckAnswers.{IsCheckReply}
use Rattle.arbac_desk.proofs.AnswerLemmas.{tells_faults, is_known, ends_known}
use Rattle.arbac_desk.proofs.CheckLemmas.{answered, check_ends}
use Rattle.arbac_desk.proofs.check.answer.Goals as goal

-- what was asked of the shelf, and what was written of the reply
pub returns-clause-answer : goal.returns-clause-answer
returns-clause-answer g c =
    answered c.args.question.now c.args.cert.now (g.H.Shelf.seen c.args.shelf.now) (g.H.Shelf.seen c.reply_from-reply.new.shelf) _ _
    c.reply_from-reply.result _ c.reply_from-reply.ensures.asked c.reply_from-reply.ensures.reply c.say_reply.ensures

-- it tells its faults
pub returns-clause-faults : goal.returns-clause-faults
returns-clause-faults g c =
    let before = g.H.Shelf.seen c.args.shelf.now in
    let after = g.H.Shelf.seen c.reply_from-reply.new.shelf in
    tells_faults (IsCheckReply c.args.question.now c.args.cert.now before after) before after _ _ _
    (check_ends c.args.question.now c.args.cert.now before after) (returns-clause-answer g c).says

-- its status stands in the table
pub returns-clause-known : goal.returns-clause-known
returns-clause-known g c =
    let before = g.H.Shelf.seen c.args.shelf.now in
    let after = g.H.Shelf.seen c.reply_from-reply.new.shelf in
    is_known (IsCheckReply c.args.question.now c.args.cert.now before after) _ _ _
    (λ told text reply. ends_known before after told (check_ends c.args.question.now c.args.cert.now before after told text reply))
    (returns-clause-answer g c).says
