use Rattle.search_laws.proofs.MonotonyLemmas.{form_beats}
use Rattle.search_laws.proofs.RoundLemmas.{covered_more}
use Rattle.search_laws.proofs.pruning.left_out_laws.Goals as goal

pub returns : goal.returns
returns c = record { seen = covered_more; beaten = form_beats }
