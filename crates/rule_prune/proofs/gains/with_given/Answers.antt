use Rattle.std.proofs.Common.{◌∙◌, sym}
use Rattle.rule_prune.proofs.GainLemmas.{given_step, ungiven_step}
use Rattle.rule_prune.proofs.gains.with_given.Goals as goal

-- the rule gives its range
pub returns-then-may_give : goal.returns-then-may_give
returns-then-may_give c =
    rw c.join.ensures (given_step c.args.order.now c.args.rule.now c.args.set.now c.roles_of.result c.roles_of.ensures.roles
    (sym c.may_give.ensures ∙ c.if-may_give.true))

-- it may not
pub returns-else-may_give : goal.returns-else-may_give
returns-else-may_give c = ungiven_step c.args.order.now c.args.rule.now c.args.set.now (sym c.may_give.ensures ∙ c.if-may_give.false)
