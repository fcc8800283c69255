use Rattle.std.proofs.Common.{◌∙◌, ap, length}
use Rattle.role_order.specs.Names.{texts}
use Rattle.role_order.specs.Graph.{Graph}
use Rattle.role_order.proofs.order.Order.count.Goals as goal

pub returns-clause-count : goal.returns-clause-count
returns-clause-count c =
    c.count_of.ensures ∙ ap (λ names. length (texts names)) c.deref.ensures.value ∙ ap (λ (order : Graph). length order.names) c.self.view_is
