use Rattle.arbac_laws.proofs.ListingRowLemmas.{senior_goal, senior_barred, senior_listed, senior_before}
use Rattle.arbac_laws.proofs.rows.senior_rows.Goals as goal

pub returns : goal.returns
returns _ = record { goal = senior_goal; barred = senior_barred; range = senior_listed; before = senior_before }
