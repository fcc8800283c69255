use Rattle.std.proofs.Common.{◌≡◌, ap, sym, subst}
use Rattle.arbac_policy.specs.Rules.{IsPolicy}
use Rattle.cert_text.specs.Certificates.{plain_of}
use Rattle.cert_text.specs.Drafts.{StandsFor}
use Rattle.cert_text.specs.Texts.{certificate_text}
use Rattle.cert_check.specs.Asked.{Asked}
use Rattle.cert_check.specs.Judgements.{asked_by}
use Rattle.question_answer.specs.Answers.{IsAnswerTo}
use Rattle.question_answer.specs.Outcomes.{IsOutcomeOf}
use Rattle.question_answer.proofs.AnswerLemmas.{answer_has, outcome_answers}
use Rattle.question_answer.proofs.PosingLemmas.{goal_roles}
use Rattle.question_answer.proofs.WrittenLemmas.{answer_written}
use Rattle.question_answer.proofs.answer.answer_question.Goals as goal

-- the certificate is that of the outcome, and such a certificate can be written
pub write_cert-requires : goal.write_cert-requires
write_cert-requires g c =
    let asked = asked_by c.args.question in
    let rules : c.in_ok-posed.posed.prepared ≡ c.args.question.policy = ap (λ (a : Asked). a.rules) c.in_ok-posed.ensures.asked in
    let outcome = subst (λ (a : Asked). IsOutcomeOf a c.args.limit c.in_ok-outcome.outcome) c.in_ok-posed.ensures.asked c.in_ok-outcome.ensures in
    let answers = subst (IsAnswerTo asked c.args.limit) (sym c.in_ok-cert.ensures) (outcome_answers asked c.args.limit c.in_ok-outcome.outcome outcome) in
    let policy : IsPolicy asked.rules = rw (c.policy.ensures, rules) at c.order.ensures.known in
    rw (c.order.ensures.order, c.policy.ensures, rules)
    (answer_written asked c.requires.rules.order.ends policy (goal_roles c.args.question c.requires.rules) c.args.limit c.requires.some c.requires.few
    (plain_of c.in_ok-cert.cert) answers)

-- what was written stands for the certificate, which shows what it says
pub returns : goal.returns
returns g c =
    let asked = asked_by c.args.question in
    let names = asked.rules.order.names in
    let cert = plain_of c.in_ok-cert.cert in
    let rules : c.in_ok-posed.posed.prepared ≡ c.args.question.policy = ap (λ (a : Asked). a.rules) c.in_ok-posed.ensures.asked in
    let outcome = subst (λ (a : Asked). IsOutcomeOf a c.args.limit c.in_ok-outcome.outcome) c.in_ok-posed.ensures.asked c.in_ok-outcome.ensures in
    let answers = subst (IsAnswerTo asked c.args.limit) (sym c.in_ok-cert.ensures) (outcome_answers asked c.args.limit c.in_ok-outcome.outcome outcome) in
    let policy : IsPolicy asked.rules = rw (c.policy.ensures, rules) at c.order.ensures.known in
    let text : c.in_ok-text.text.items ≡ certificate_text names cert =
    rw (c.order.ensures.order, c.policy.ensures, rules) at c.in_ok-text.ensures.text in
    let stands : StandsFor names c.in_ok-text.text.items cert =
    rw (c.order.ensures.order, c.policy.ensures, rules) at c.in_ok-text.ensures.back in
    record {
      cert = cert;
      answers = answers;
      has = answer_has asked c.requires.rules.order.ends policy c.args.limit cert answers;
      written = answer_written asked c.requires.rules.order.ends policy (goal_roles c.args.question c.requires.rules) c.args.limit c.requires.some
          c.requires.few cert answers;
      says = c.kind_of.ensures;
      text_is = text;
      stands = stands;
    }
