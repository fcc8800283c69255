use Rattle.role_order.proofs.order.Order.new.Goals as goal

pub returns-in-Err-clause-err : goal.returns-in-Err-clause-err
returns-in-Err-clause-err c = rw c.deref.ensures.value at (c.in-Err.ensures.err c.args.edges.items)
