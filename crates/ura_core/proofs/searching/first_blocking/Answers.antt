use Rattle.ura_core.proofs.searching.first_blocking.Goals as goal

pub returns-clause-found : goal.returns-clause-found
returns-clause-found c = rw (← c.exclusive.ensures) (rw c.order-order.ensures.order at c.first_met.ensures.found)
