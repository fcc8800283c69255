use Rattle.req_pre.proofs.BackwardLemmas.{set_needs}
use Rattle.req_pre.proofs.backwards.exchange.Goals as goal

pub returns : goal.returns
returns c = set_needs c.args.raw.now.items c.args.target c.args.before
