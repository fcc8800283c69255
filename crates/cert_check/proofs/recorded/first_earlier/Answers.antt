use Rattle.cert_check.proofs.recorded.first_earlier.Goals as goal

-- the members are those that the wanted users ask for
pub returns-clause-first : goal.returns-clause-first
returns-clause-first c = rw (c.deref-3.ensures.value, c.in_ok-wanted.ensures.needs) at c.first_covering.ensures.first
