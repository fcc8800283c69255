use Rattle.std.proofs.Common.{◌≡◌, ◌<◌, ◌∙◌, ap, sym, arith, length, Some}
use Rattle.list_words.proofs.GetLemmas.{get_at}
use Rattle.role_order.specs.Graph.{Graph}
use Rattle.role_order.proofs.ClosureLemmas.{below_role}
use Rattle.role_order.proofs.order.Order.below.Goals as goal

-- the table's set at the role's place
pub returns-clause-each : goal.returns-clause-each
returns-clause-each c =
    let order : c.self.inside.edges.items ≡ c.args.self.now.edges = ap (λ (order : Graph). order.edges) c.self.view_is in
    let few : c.args.role < length c.self.inside.below.items =
    omega (arith, c.requires, c.self.invariant.juniors.long, ap (λ (order : Graph). length order.names) c.self.view_is) in
    rw (← order) (below_role c.self.inside.edges.items _ c.args.role c.self.inside.below.items c.index.result.now c.self.invariant.juniors
    (get_at c.self.inside.below.items c.args.role c.index.result.now few ∙ ap Some (sym c.index.ensures)))
