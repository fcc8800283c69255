use Rattle.std.proofs.Common.{ℕ, List, ◌<◌, ◌∙◌, length, sym, ap, subst}
use Rattle.std.specs.Prelude.{filter}
use Rattle.list_words.specs.Lists.{Each}
use Rattle.role_order.specs.Roles.{has_role}
use Rattle.role_order.proofs.SetLemmas.{each-filter}
use Rattle.search_rounds.proofs.UsefulLemmas.{range_is, roles_known}
use Rattle.search_rounds.proofs.useful.useful_in.Goals as goal

-- a rising list of the same roles
pub returns-clause-roles : goal.returns-clause-roles
returns-clause-roles c =
    c.common.ensures.common ∙ ap (filter (has_role c.args.useful.now))
    (range_is c.args.order.now c.is_order.ensures c.args.range.now c.roles_of.result c.roles_of.ensures.set.rises c.roles_of.ensures.roles)

pub returns-clause-known : goal.returns-clause-known
returns-clause-known c =
    subst (λ (l : List ℕ). Each (λ role. role < length c.args.order.now.names) l) (sym c.common.ensures.common)
    (each-filter (λ role. role < length c.args.order.now.names) (has_role c.args.useful.now) c.roles_of.result
    (roles_known c.args.order.now c.args.range.now c.roles_of.result c.roles_of.ensures.roles))
