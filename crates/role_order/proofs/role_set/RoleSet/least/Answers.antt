use Rattle.std.proofs.Common.{◌∙◌}
use Rattle.role_order.proofs.FirstLemmas.{first_from-zero}
use Rattle.role_order.proofs.role_set.RoleSet.least.Goals as goal

pub returns-clause-value : goal.returns-clause-value
returns-clause-value c = c.next_from.ensures.value ∙ first_from-zero c.args.self.now
