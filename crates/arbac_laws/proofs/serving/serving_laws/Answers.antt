use Rattle.arbac_laws.proofs.ServeLemmas.{drawn_served, one_least, unmet_unserved, unserved_unmet}
use Rattle.arbac_laws.proofs.serving.serving_laws.Goals as goal

pub returns : goal.returns
returns c = record { drawn = drawn_served; unmet = unmet_unserved; unserved = unserved_unmet; least = one_least }
