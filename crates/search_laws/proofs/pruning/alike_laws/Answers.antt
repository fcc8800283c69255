use Rattle.search_laws.proofs.AlikeLemmas.{admins_alike, targets_alike}
use Rattle.search_laws.proofs.pruning.alike_laws.Goals as goal

pub returns : goal.returns
returns c = record { targets = targets_alike; admins = admins_alike }
