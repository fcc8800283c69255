use Rattle.std.proofs.Common.{ℕ, List, ◌≡◌, ◌<◌, ◌∙◌, length, sym, ap, subst}
use Rattle.std.specs.Prelude.{filter}
use Rattle.list_words.specs.Lists.{Each}
use Rattle.role_order.specs.Graph.{Graph}
use Rattle.role_order.specs.Roles.{has_role}
use Rattle.role_order.proofs.SetLemmas.{each-filter}
use Rattle.arbac_policy.specs.Rules.{Rules}
use Rattle.arbac_laws.specs.Obligations.{flat, roles_in}
use Rattle.arbac_laws.specs.Views.{needs_of}
use Rattle.cert_check.specs.Passing.{given_by, by_role}
use Rattle.cert_check.proofs.UsefulLemmas.{useful_flat}
use Rattle.cert_check.proofs.useful.useful_in_range.Goals as goal

-- what is left out has no obligation
pub returns-clause-all : goal.returns-clause-all
returns-clause-all c = λ hit.
    let book = c.args.book.now in
    let useful = c.useful_roles.result in
    let graph : c.order.result.now ≡ book.order = c.order.ensures.order ∙ ap (λ (r : Rules). r.order) c.policy.ensures in
    let is : c.common.result ≡ filter (has_role useful) (roles_in book.order c.args.range.now) =
    c.common.ensures.common ∙ ap (filter (has_role useful)) (c.roles_of-roles.ensures.roles ∙ ap (λ (g : Graph). roles_in g c.args.range.now) graph) in
    ap (flat (by_role book (given_by c.args.change.now) hit (needs_of c.args.users.now))) is
    ∙ useful_flat book (given_by c.args.change.now) hit c.args.range.now c.args.users.now useful c.useful_roles.ensures

pub returns-clause-known : goal.returns-clause-known
returns-clause-known c =
    let book = c.args.book.now in
    let graph : c.order.result.now ≡ book.order = c.order.ensures.order ∙ ap (λ (r : Rules). r.order) c.policy.ensures in
    subst (λ (l : List ℕ). Each (λ role. role < length book.order.names) l) (sym c.common.ensures.common)
    (each-filter (λ role. role < length book.order.names) (has_role c.useful_roles.result) c.roles_of-roles.result
    (subst (λ (g : Graph). Each (λ role. role < length g.names) c.roles_of-roles.result) graph c.roles_of-roles.ensures.known))
