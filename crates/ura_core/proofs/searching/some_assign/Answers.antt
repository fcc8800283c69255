use Rattle.ura_core.proofs.searching.some_assign.Goals as goal

pub returns : goal.returns
returns c = rw (← c.assign_of.ensures.rules) c.some_met.ensures
