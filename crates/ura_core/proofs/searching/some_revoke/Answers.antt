use Rattle.ura_core.proofs.searching.some_revoke.Goals as goal

pub returns : goal.returns
returns c = rw (← c.revoke_of.ensures.rules) c.some_met.ensures
