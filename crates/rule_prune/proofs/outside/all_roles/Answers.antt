use Rattle.std.proofs.Common.{◌∙◌, ap, arith}
use Rattle.role_order.specs.Roles.{with_role}
use Rattle.rule_prune.proofs.OutsideLemmas.{next_counted}
use Rattle.rule_prune.proofs.outside.all_roles.Goals as goal

-- one role more
pub loop-role-preserved : goal.loop-role-preserved
loop-role-preserved c =
    c.with-all.ensures ∙ ap (λ all. with_role all c.loop-role.role) c.loop-role.invariant ∙ next_counted 0 c.loop-role.role c.loop-role.role (omega arith)
