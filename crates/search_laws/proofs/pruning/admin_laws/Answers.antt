use Rattle.search_laws.proofs.AdminLemmas.{free_covers_others, not_covering_free}
use Rattle.search_laws.proofs.pruning.admin_laws.Goals as goal

pub returns : goal.returns
returns c = record { free = free_covers_others; apart = not_covering_free }
