use Rattle.search_laws.proofs.MonotonyLemmas.{acts_covered, assign_covers, parent_covers}
use Rattle.search_laws.proofs.pruning.monotony_laws.Goals as goal

pub returns : goal.returns
returns c = record { acts = acts_covered; parent = parent_covers; assign = assign_covers }
