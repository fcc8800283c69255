use Rattle.std.proofs.Common.{refl}
use Rattle.arbac_laws.proofs.ListingRowLemmas.{second_assigned, not_other_itself, first_revoked, second_not_barred}
use Rattle.arbac_laws.proofs.rows.obligation_rows.Goals as goal

pub returns : goal.returns
returns _ = record {
  assigned = second_assigned;
  itself = not_other_itself;
  revoked = first_revoked;
  not_barred = second_not_barred;
  first = refl;
  last = refl;
}
