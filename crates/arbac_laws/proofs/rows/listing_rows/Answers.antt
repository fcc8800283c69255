use Rattle.arbac_laws.proofs.ListingRowLemmas.{all_listed}
use Rattle.arbac_laws.proofs.rows.listing_rows.Goals as goal

pub returns : goal.returns
returns _ = record { all = all_listed }
