use Rattle.arbac_laws.specs.Views.{need_of}
use Rattle.cert_needs.proofs.WantedLemmas.{needs_set, free_set}
use Rattle.cert_needs.proofs.wanted.exchange.Goals as goal

pub returns-clause-needs : goal.returns-clause-needs
returns-clause-needs c = needs_set c.args.users.now c.args.place c.wanted_of.result (need_of c.args.before.now) c.wanted_of.ensures.need

pub returns-clause-free : goal.returns-clause-free
returns-clause-free c = λ free. free_set c.args.users.now c.args.place c.wanted_of.result free c.wanted_of.ensures.free
