use Rattle.std.proofs.Common.{◌≡◌, false, true}
use Rattle.shared_reqs.proofs.RowLemmas.{not_few}
use Rattle.shared_reqs.proofs.cover_rows.covers_few.Goals as goal

-- more others than bits, or fewer than users
pub returns-then-others-gt-MOST_PLACES : goal.returns-then-others-gt-MOST_PLACES
returns-then-others-gt-MOST_PLACES c = (
  λ passes. absurd (let never : false ≡ true = passes in cc),
  λ both. absurd (not_few c.args.users.now c.args.others.now c.then-others-gt-MOST_PLACES.either both),
)
