use Rattle.std.proofs.Common.{refl, subst}
use Rattle.arbac_policy.specs.Truth.{permission}
use Rattle.arbac_policy.specs.Verdicts.{PermDenies}
use Rattle.ura_core.proofs.AnswerLemmas.{denied_weaker}
use Rattle.ura_core.proofs.DenialLemmas.{kind_denied_no}
use Rattle.pra_core.proofs.PairLemmas.{kind_no_pair}
use Rattle.pra_core.proofs.decision.decide_perm.Goals as goal

-- each part that fails is one that a step needs
pub returns-clause-no_step : goal.returns-clause-no_step
returns-clause-no_step c = denied_weaker _ _ c.decide_by_dual.result
    (λ part denied new step. kind_denied_no c.args.act.now.kind permission c.args.policy.now c.args.users.now c.args.permissions.now c.args.act.now.admin
    c.args.act.now.target c.args.act.now.role part new refl denied step)
    c.decide_by_dual.ensures.denied

-- a pair is no part of an act on a permission
pub returns-clause-no_pair : goal.returns-clause-no_pair
returns-clause-no_pair c = denied_weaker _ _ c.decide_by_dual.result
    (λ part denied role pair same. kind_no_pair c.args.act.now.kind c.args.policy.now c.args.users.now c.args.permissions.now c.args.act.now.admin
    c.args.act.now.target c.args.act.now.role role pair
    (subst (PermDenies c.args.policy.now c.args.users.now c.args.permissions.now c.args.act.now) same denied))
    c.decide_by_dual.ensures.denied
