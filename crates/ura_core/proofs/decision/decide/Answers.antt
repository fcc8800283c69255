use Rattle.std.proofs.Common.{refl}
use Rattle.arbac_policy.specs.Truth.{user}
use Rattle.ura_core.proofs.AnswerLemmas.{denied_weaker}
use Rattle.ura_core.proofs.DenialLemmas.{kind_denied_no}
use Rattle.ura_core.proofs.decision.decide.Goals as goal

-- each part that fails is one that a step needs
pub returns-clause-no_step : goal.returns-clause-no_step
returns-clause-no_step c = denied_weaker _ _ c.decide_on.result
    (λ part denied new step. kind_denied_no c.args.act.now.kind user c.args.policy.now c.args.users.now c.args.users.now c.args.act.now.admin
    c.args.act.now.target c.args.act.now.role part new refl denied step)
    c.decide_on.ensures.denied
