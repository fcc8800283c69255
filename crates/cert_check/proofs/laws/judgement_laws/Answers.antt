use Rattle.cert_check.proofs.JudgementLemmas.{reason_none, reason_one}
use Rattle.cert_check.proofs.laws.judgement_laws.Goals as goal

pub returns : goal.returns
returns c = record { none = reason_none; one = reason_one }
