use Rattle.std.proofs.Common.{◌≡◌, ◌∙◌, arith, inr, sym, refl, subst}
use Rattle.std.proofs.lemmas.Bool.{false≢true}
use Rattle.role_order.specs.Graph.{Graph}
use Rattle.cert_text.specs.declared.cert_error.CertError.TheVariants as certs
use Rattle.cert_text.specs.Certificates.{Certificate}
use Rattle.cert_text.specs.Drafts.{StandsFor}
use Rattle.cert_text.specs.Faults.{IsFirstFault}
use Rattle.desk_texts.specs.Faults.{cert_fault}
use Rattle.desk_texts.specs.Lines.{malformed_line}
use Rattle.arbac_desk.specs.CheckAnswers.{IsReplyToCert}
use Rattle.arbac_desk.proofs.AnswerLemmas.{replied_as}
use Rattle.arbac_desk.proofs.CheckLemmas.{first_fault}
use Rattle.arbac_desk.proofs.check.reply_to_cert.Goals as goal

-- the error is the first fault, since it isn't want of memory
pub returns-else-is_cert_memory : goal.returns-else-is_cert_memory
returns-else-is_cert_memory c =
    let told : c.in-Err.error ≡ certs.Memory → ⊥ = λ e. false≢true (sym c.if-is_cert_memory.false ∙ c.is_cert_memory.ensures.1 e) in
    let names = c.order.result.now.names in
    replied_as (IsReplyToCert c.args.question.now c.args.name.now c.args.bytes.now) 3 (malformed_line c.args.name.now (cert_fault c.in-Err.error))
    c.reply_malformed-in-Err.result c.reply_malformed-in-Err.ensures.status c.reply_malformed-in-Err.ensures.text
    (inr (inr (
      refl,
      inr (
        omega arith,
        c.in-Err.error,
        record {
          first = subst (λ (order : Graph). IsFirstFault order.names c.args.bytes.now c.in-Err.error) c.order.ensures.order
              (first_fault names c.args.bytes.now c.in-Err.error c.in-Err.ensures.first told);
          told = told;
          none = subst (λ (order : Graph). (cert : Certificate) → StandsFor order.names c.args.bytes.now cert → ⊥) c.order.ensures.order
              (λ cert stands. told (c.in-Err.ensures.only cert stands));
        },
        refl,
      ),
    )))
