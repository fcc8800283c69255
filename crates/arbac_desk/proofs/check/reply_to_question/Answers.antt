use Rattle.std.proofs.Common.{◌≡◌, ◌∙◌, arith, inl, inr, sym, refl}
use Rattle.std.proofs.lemmas.Bool.{false≢true}
use Rattle.question_text.specs.declared.question_error.QuestionError.TheVariants as questions
use Rattle.desk_texts.specs.Faults.{question_fault}
use Rattle.desk_texts.specs.Lines.{malformed_line}
use Rattle.arbac_desk.specs.CheckAnswers.{IsReplyFor}
use Rattle.arbac_desk.proofs.AnswerLemmas.{replied_as}
use Rattle.arbac_desk.proofs.CheckLemmas.{asked_with}
use Rattle.arbac_desk.proofs.check.reply_to_question.Goals as goal

-- the bytes are a question, and the certificate has its reply under it
pub returns-in-Ok-clause-reply : goal.returns-in-Ok-clause-reply
returns-in-Ok-clause-reply g c =
    asked_with c.args.question.now c.args.bytes.now c.args.cert.now c.in-Ok.asked _ _ c.reply_from_cert.result
    (omega arith) (record { stands = c.in-Ok.ensures.value; only = c.in-Ok.ensures.only; keeps = c.in-Ok.ensures.kept }) c.reply_from_cert.ensures.reply

-- the error is the first fault, since it isn't want of memory
pub returns-else-is_memory-clause-reply : goal.returns-else-is_memory-clause-reply
returns-else-is_memory-clause-reply g c =
    let told : c.in-Err.error ≡ questions.Memory → ⊥ = λ e. false≢true (sym c.if-is_memory.false ∙ c.is_memory.ensures.1 e) in
    replied_as (IsReplyFor c.args.question.now c.args.bytes.now c.args.cert.now (g.H.Shelf.seen c.args.shelf.now) (g.H.Shelf.seen c.args.shelf.now)) 3
    (malformed_line c.args.question.now (question_fault c.in-Err.error))
    c.reply_malformed-in-Err.result c.reply_malformed-in-Err.ensures.status c.reply_malformed-in-Err.ensures.text
    (inl (record {
      fetched = record { counted = refl; missed = refl };
      status_is = refl;
      malformed = inr (
        omega arith,
        c.in-Err.error,
        record {
          first = c.in-Err.ensures.fault;
          told = told;
          none = λ value stands. told (c.in-Err.ensures.only value stands);
        },
        refl,
      );
    }))
