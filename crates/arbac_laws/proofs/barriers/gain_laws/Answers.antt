use Rattle.arbac_laws.proofs.GainLemmas.{holds, same_gains}
use Rattle.arbac_laws.proofs.barriers.gain_laws.Goals as goal

pub returns : goal.returns
returns c = record { holds = holds; gains = same_gains }
