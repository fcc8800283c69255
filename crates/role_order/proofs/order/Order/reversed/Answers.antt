use Rattle.std.proofs.Common.{◌≡◌, ◌∙◌, ap, map}
use Rattle.role_order.specs.Names.{texts}
use Rattle.role_order.specs.Graph.{Graph, turned}
use Rattle.role_order.proofs.ReachLemmas.{leads_turned, leads_back}
use Rattle.role_order.proofs.ClosureLemmas.{kept_turned}
use Rattle.role_order.proofs.order.Order.reversed.Goals as goal

-- the tables are exchanged
pub invariant_of-result : goal.invariant_of-result
invariant_of-result c =
    rw (
      c.in_ok-copy_names.ensures,
      c.deref.ensures.value,
      c.in_ok-turn.ensures,
      c.deref-2.ensures.value,
      c.in_ok-from_slice.ensures.items,
      c.deref-3.ensures.value,
      c.in_ok-from_slice-2.ensures.items,
      c.deref-4.ensures.value,
      c.in_ok-from_slice-3.ensures.items,
      c.deref-5.ensures.value,
    )
    (kept_turned (texts c.self.inside.names.items) c.self.inside.edges.items c.self.inside.above.items c.self.inside.below.items
    c.self.inside.by_name.items c.self.invariant)

-- an edge turned round leads back
pub returns-clause-geq : goal.returns-clause-geq
returns-clause-geq c = λ x y.
    let old : c.self.inside.edges.items ≡ c.args.self.now.edges = ap (λ (order : Graph). order.edges) c.self.view_is in
    let edges : c.in_ok-turn.field-0.items ≡ map turned c.args.self.now.edges = c.in_ok-turn.ensures ∙ ap (map turned) (c.deref-2.ensures.value ∙ old) in
    rw edges (λ l. leads_back c.args.self.now.edges x y l, λ l. leads_turned l)
