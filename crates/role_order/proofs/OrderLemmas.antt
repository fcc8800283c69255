-- The total order of sets.
use Rattle.std.specs.Prelude.{nat_lt}
use Rattle.role_order.specs.Orders.{set_before}
use Rattle.list_words.specs.Orders.{IsTotalOrder}
use Rattle.list_words.proofs.OrderLemmas.{number_order, list_order}

pub set_order : IsTotalOrder set_before
set_order = list_order nat_lt number_order
