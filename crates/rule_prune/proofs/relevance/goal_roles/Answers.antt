use Rattle.std.proofs.Common.{◌≡◌, ◌∙◌, [], ap, sym, Some}
use Rattle.std.specs.Prelude.{slice_get}
use Rattle.list_words.proofs.GetLemmas.{get_at}
use Rattle.role_order.specs.Roles.{join_roles}
use Rattle.arbac_policy.specs.Truth.{term_of}
use Rattle.arbac_policy.specs.declared.cond.Cond.{Cond}
use Rattle.rule_prune.specs.Relevant.{AreAmong, asked}
use Rattle.rule_prune.specs.declared.relevance.Relevance.{Relevance}
use Rattle.rule_prune.proofs.RelevantLemmas.{among_order, among_stays, joined_step}
use Rattle.rule_prune.proofs.StepLemmas.{all_steps, no_step, one_step}
use Rattle.rule_prune.proofs.relevance.goal_roles.Goals as goal

pub loop-cond-init : goal.loop-cond-init
loop-cond-init c =
    rw c.no_roles-roles.ensures
    (no_step AreAmong among_order (λ (cond : Cond) old new. AreAmong (asked c.args.order.now (term_of cond)) new) c.args.goal.now
    (record { wanted = []; barred = [] }))

-- one condition more
pub loop-cond-preserved : goal.loop-cond-preserved
loop-cond-preserved c =
    let conds = c.args.goal.now in
    let cond = c.cond-item.result in
    let here : slice_get conds c.loop-cond.cond-index ≡ Some cond =
    get_at conds c.loop-cond.cond-index cond c.loop-cond-test.true ∙ ap (λ (x : Cond). Some x) (sym c.cond-item.is) in
    let more = asked c.args.order.now (term_of cond) in
    one_step AreAmong among_order (λ (cond : Cond) old new. AreAmong (asked c.args.order.now (term_of cond)) new)
    (λ cond. among_stays (asked c.args.order.now (term_of cond))) conds c.loop-cond.cond-index cond here (record { wanted = []; barred = [] })
    c.loop-cond.roles c.joined-roles.result c.loop-cond.invariant
    (joined_step c.loop-cond.roles more c.joined-roles.result
    (c.joined-roles.ensures.wanted ∙ ap (λ (r : Relevance). join_roles c.loop-cond.roles.wanted r.wanted) c.asked.ensures)
    (c.joined-roles.ensures.barred ∙ ap (λ (r : Relevance). join_roles c.loop-cond.roles.barred r.barred) c.asked.ensures))

pub returns : goal.returns
returns c =
    all_steps AreAmong (λ (cond : Cond) old new. AreAmong (asked c.args.order.now (term_of cond)) new) c.args.goal.now c.loop-cond.cond-index
    c.loop-cond-test.false (record { wanted = []; barred = [] }) c.loop-cond.roles c.loop-cond.invariant
