use Rattle.cert_needs.proofs.HitLemmas.{possible_is}
use Rattle.cert_needs.proofs.forms.is_possible.Goals as goal

-- the hits of no user are barred
pub returns : goal.returns
returns c = possible_is c.args.users.now c.is_impossible.result c.is_impossible.ensures
