use Rattle.ura_core.proofs.searching.revoke_in_range.Goals as goal

pub returns-clause-found : goal.returns-clause-found
returns-clause-found c = rw (← c.revoke_of.ensures.rules) c.first_met.ensures.found
