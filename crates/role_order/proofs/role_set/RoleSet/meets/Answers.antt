use Rattle.std.proofs.Common.{sym, ◌∙◌}
use Rattle.role_order.specs.Roles.{has_role}
use Rattle.role_order.proofs.FirstLemmas.{is_list_any}
use Rattle.role_order.proofs.role_set.RoleSet.meets.Goals as goal

-- a role of the set is in the other
pub returns : goal.returns
returns c = is_list_any (has_role c.args.other.now) c.args.self.now c.is_empty.result
    (λ h. sym c.common.ensures.common ∙ c.is_empty.ensures.0 h) (λ e. c.is_empty.ensures.1 (c.common.ensures.common ∙ e))
