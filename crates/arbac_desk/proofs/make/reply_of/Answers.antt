use Rattle.std.proofs.Common.{◌≡◌, ◌∙◌, length, refl, sym, ap, subst}
use Rattle.std.proofs.lemmas.List.{length-map}
use Rattle.role_order.specs.Graph.{Graph}
use Rattle.arbac_policy.specs.PlainRules.{plain_rule}
use Rattle.question_text.specs.Values.{QuestionValue}
use Rattle.cert_check.specs.Asked.{Asked}
use Rattle.sample_question.specs.Samples.{sample}
use Rattle.question_answer.specs.Outcomes.{IsOutcomeOf}
use Rattle.arbac_desk.specs.MakeAnswers.{made_line}
use Rattle.arbac_desk.proofs.make.reply_of.Goals as goal

-- the numbers of roles and rules are those of the sample, and the outcome is that of its search
pub returns : goal.returns
returns c =
    let question = c.in_ok-question.question in
    let is_sample = c.in_ok-question.ensures.question in
    let outcome = c.in_ok-outcome.outcome in
    let size = c.args.size in
    let roles : c.count-roles.result ≡ length (sample size).names =
    c.count-roles.ensures.count ∙ ap (λ (order : Graph). length order.names) c.order.ensures.order
    ∙ ap (λ (value : QuestionValue). length value.names) is_sample in
    let rules : length c.assign-rules.result.now ≡ length (sample size).assign =
    ap length c.assign-rules.ensures ∙ sym (length-map question.policy.assign plain_rule)
    ∙ ap (λ (value : QuestionValue). length value.assign) is_sample in (
      refl,
      record {
        question = question;
        is_sample = is_sample;
        outcome = outcome;
        is_outcome = subst (λ (asked : Asked). IsOutcomeOf asked c.args.limit outcome) c.in_ok-posed.ensures.asked c.in_ok-outcome.ensures;
        text_is = c.in_ok-text.ensures ∙ ap (λ r. made_line size r (length c.assign-rules.result.now) outcome) roles
            ∙ ap (λ k. made_line size (length (sample size).names) k outcome) rules;
      },
    )
