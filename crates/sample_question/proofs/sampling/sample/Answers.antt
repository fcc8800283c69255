use Rattle.std.proofs.Common.{sym, subst}
use Rattle.std.proofs.lemmas.Result.{IfOk-weaker}
use Rattle.question_text.specs.Rules.{KeepsRules}
use Rattle.sample_question.proofs.KeepLemmas.{keeps}
use Rattle.sample_question.proofs.sampling.sample.Goals as goal

pub returns-clause-rules : goal.returns-clause-rules
returns-clause-rules c =
    IfOk-weaker c.question.result _ _ (λ question e. subst KeepsRules (sym e) (keeps c.args.size c.requires.some c.requires.few)) c.question.ensures
