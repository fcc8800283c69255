use Rattle.std.proofs.Common.{◌≡◌, ◌∙◌, arith, inr, sym, length, refl}
use Rattle.std.proofs.lemmas.Bool.{false≢true}
use Rattle.policy_text.specs.declared.run_error.RunError.TheVariants as runs
use Rattle.desk_texts.specs.Faults.{run_fault}
use Rattle.desk_texts.specs.Lines.{malformed_line}
use Rattle.arbac_desk.specs.ReplayAnswers.{IsReplyTo}
use Rattle.arbac_desk.proofs.AnswerLemmas.{replied_as}
use Rattle.arbac_desk.proofs.ReplayLemmas.{known_conds, first_fault}
use Rattle.arbac_desk.proofs.replay.reply_to.Goals as goal

-- the error is the first fault, since it isn't want of memory
pub returns-else-is_memory : goal.returns-else-is_memory
returns-else-is_memory c =
    let told : c.in-Err.error ≡ runs.Memory → ⊥ = λ e. false≢true (sym c.if-is_memory.false ∙ c.is_memory.ensures.1 e) in
    replied_as (IsReplyTo c.args.name.now c.args.bytes.now) 3 (malformed_line c.args.name.now (run_fault c.in-Err.error))
    c.reply_malformed-in-Err.result c.reply_malformed-in-Err.ensures.status c.reply_malformed-in-Err.ensures.text
    (inr (inr (
      refl,
      inr (
        omega arith,
        c.in-Err.error,
        record {
          first = first_fault c.args.bytes.now c.in-Err.error c.in-Err.ensures.first told;
          told = told;
          none = λ value stands. told (c.in-Err.ensures.only value stands);
        },
        refl,
      ),
    )))

-- the conditions of a run that was read are on roles of its order
pub reply_to_run-requires-clause-known : goal.reply_to_run-requires-clause-known
reply_to_run-requires-clause-known c = known_conds (length c.in-Ok.run'.policy.order.names) c.in-Ok.run'.goal.items c.in-Ok.ensures.known
