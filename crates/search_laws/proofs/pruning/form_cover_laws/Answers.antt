use Rattle.arbac_laws.proofs.FixedLemmas.{covering_possible}
use Rattle.search_laws.proofs.MonotonyLemmas.{covering_form, one_form}
use Rattle.search_laws.proofs.pruning.form_cover_laws.Goals as goal

pub returns : goal.returns
returns c = record { possible = covering_possible; forms = covering_form; one = one_form }
