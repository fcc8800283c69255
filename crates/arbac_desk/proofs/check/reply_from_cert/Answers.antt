use Rattle.arbac_desk.specs.declared.TheConstants.{MOST_CERT_BYTES}
use Rattle.arbac_desk.specs.CheckAnswers.{IsReplyToCert}
use Rattle.arbac_desk.proofs.FileLemmas.{fetched}
use Rattle.arbac_desk.proofs.CheckLemmas.{cert_replied}
use Rattle.arbac_desk.proofs.check.reply_from_cert.Goals as goal

-- the reply to what was fetched is the reply to what the file holds
pub returns-in-Ok-clause-reply : goal.returns-in-Ok-clause-reply
returns-in-Ok-clause-reply g c =
    fetched MOST_CERT_BYTES (IsReplyToCert c.args.question.now c.args.name.now) (cert_replied c.args.question.now c.args.name.now) c.args.name.now
    c.in-Ok.bytes.items _ _ c.reply_to_cert.result
    (record { counted = c.in-Ok.ensures.cause.same (λ e. cc); missed = c.in-Ok.ensures.missed.kept (λ e. cc) })
    c.in-Ok.ensures.text (rw c.deref.ensures.value at c.reply_to_cert.ensures)
