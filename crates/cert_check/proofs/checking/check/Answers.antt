use Rattle.cert_text.specs.Certificates.{plain_of}
use Rattle.cert_check.specs.Judgements.{asked_by}
use Rattle.cert_check.proofs.JudgementLemmas.{is_accepted, is_refused}
use Rattle.cert_check.proofs.checking.check.Goals as goal

pub returns-clause-has : goal.returns-clause-has
returns-clause-has c = is_accepted (asked_by c.args.question.now) (plain_of c.args.cert.now) c.in_ok-judgement.judgement c.in_ok-judgement.ensures.refused

pub returns-clause-fails : goal.returns-clause-fails
returns-clause-fails c =
    is_refused (asked_by c.args.question.now) (plain_of c.args.cert.now) c.in_ok-judgement.judgement c.in_ok-judgement.ensures.accepted
    c.in_ok-judgement.ensures.refused
