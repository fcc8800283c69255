use Rattle.toml.specs.View.{table_view}
use Rattle.question_text.proofs.RoleLemmas.{edges_speak}
use Rattle.question_text.proofs.roles.role_edges.Goals as goal

pub returns-clause-edges : goal.returns-clause-edges
returns-clause-edges c =
    edges_speak (λ next. next.edges) c.args.separate c.args.admins.now c.args.order.now.names
    (table_view c.args.table.now) c.in_ok-edges.edges.items c.order_of.result
    c.in_ok-edges.ensures (rw c.in_ok-names.ensures at c.order_of.ensures.answer) c.order_of.ensures.edges
