use Rattle.std.proofs.Common.{arith, length}
use Rattle.role_order.specs.Names.{texts}
use Rattle.role_order.proofs.NameLemmas.{length_texts}
use Rattle.role_order.proofs.ClosureLemmas.{turned_table}
use Rattle.role_order.proofs.order.order_with.Goals as goal

pub sorted_by_name-requires : goal.sorted_by_name-requires
sorted_by_name-requires c = rw c.deref-2.ensures.value (omega (arith, length_texts c.args.names.items, c.requires.order.are_names.counted.1))

-- the sets turned are those of the turned order
pub invariant_of-result : goal.invariant_of-result
invariant_of-result c =
    let turned = rw (c.deref.ensures.value, c.requires.above.long) at c.in_ok-below.ensures in
    record {
      order = c.requires.order;
      seniors = c.requires.above;
      juniors = turned_table
          (length (texts c.args.names.items)) c.args.edges.items c.args.above.items c.in_ok-below.below.items c.requires.order.ends c.requires.above turned;
      table = rw c.deref-2.ensures.value at c.in_ok-by_name.ensures;
    }
