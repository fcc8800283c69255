use Rattle.arbac_desk.specs.declared.TheConstants.{MOST_RUN_BYTES}
use Rattle.arbac_desk.specs.ReplayAnswers.{IsReplyTo}
use Rattle.arbac_desk.proofs.FileLemmas.{fetched}
use Rattle.arbac_desk.proofs.ReplayLemmas.{replied}
use Rattle.arbac_desk.proofs.replay.reply_from.Goals as goal

-- the reply to what was fetched is the reply to what the file holds
pub returns-in-Ok-clause-reply : goal.returns-in-Ok-clause-reply
returns-in-Ok-clause-reply g c =
    fetched MOST_RUN_BYTES (IsReplyTo c.args.name.now) (replied c.args.name.now) c.args.name.now c.in-Ok.bytes.items _ _ c.reply_to.result
    (record { counted = c.in-Ok.ensures.cause.same (λ e. cc); missed = c.in-Ok.ensures.missed.kept (λ e. cc) })
    c.in-Ok.ensures.text (rw c.deref.ensures.value at c.reply_to.ensures)
