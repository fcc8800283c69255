use Rattle.std.proofs.Common.{refl, inl}
use Rattle.cert_text.specs.Certificates.{plain_of}
use Rattle.cert_check.specs.Asked.{HasProperty}
use Rattle.cert_check.specs.Judgements.{asked_by}
use Rattle.arbac_desk.proofs.QuestionLemmas.{shown}
use Rattle.arbac_desk.proofs.check.judge.Goals as goal

-- the certificate has its property, and shows how the question stands
pub returns-in_ok-text-in-Accepted : goal.returns-in_ok-text-in-Accepted
returns-in_ok-text-in-Accepted c =
    let has : HasProperty (asked_by c.args.question.now) (plain_of c.args.cert.now) = rw c.in-Accepted.is at c.in_ok-check.ensures.accepted in
    λ name. inl (
      refl,
      record {
        cert = plain_of c.args.cert.now;
        is_cert = c.requires.is_cert;
        has = has;
        shows = shown (asked_by c.args.question.now) (plain_of c.args.cert.now)
            (c.closed_list_law.ensures (asked_by c.args.question.now) c.requires.keeps.order.ends) has;
        text_is = c.in_ok-text-in-Accepted.ensures;
      },
    )
