use Rattle.mask_match.proofs.MovingLemmas.{none_held}
use Rattle.mask_match.proofs.placing.nobody.Goals as goal

pub returns : goal.returns
returns c = none_held 128
