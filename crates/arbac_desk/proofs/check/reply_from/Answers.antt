use Rattle.arbac_desk.proofs.CheckLemmas.{question_fetched, both_asked}
use Rattle.arbac_desk.proofs.check.reply_from.Goals as goal

-- the second file is fetched behind the first
pub returns-in-Ok-clause-asked : goal.returns-in-Ok-clause-asked
returns-in-Ok-clause-asked g c =
    both_asked c.args.question.now c.args.cert.now (g.H.Shelf.seen c.args.shelf.now) (g.H.Shelf.seen c.fetch.new.self)
    (g.H.Shelf.seen c.reply_to_question.new.shelf)
    (record { counted = c.in-Ok.ensures.cause.same (λ e. cc); missed = c.in-Ok.ensures.missed.kept (λ e. cc) }) c.reply_to_question.ensures.asked

-- the reply to what was fetched is the reply to what the files hold
pub returns-in-Ok-clause-reply : goal.returns-in-Ok-clause-reply
returns-in-Ok-clause-reply g c =
    question_fetched c.args.question.now c.in-Ok.bytes.items c.args.cert.now (g.H.Shelf.seen c.args.shelf.now) (g.H.Shelf.seen c.fetch.new.self)
    (g.H.Shelf.seen c.reply_to_question.new.shelf) c.reply_to_question.result
    (record { counted = c.in-Ok.ensures.cause.same (λ e. cc); missed = c.in-Ok.ensures.missed.kept (λ e. cc) }) c.in-Ok.ensures.told
    c.in-Ok.ensures.text (rw c.deref.ensures.value at c.reply_to_question.ensures.reply)
