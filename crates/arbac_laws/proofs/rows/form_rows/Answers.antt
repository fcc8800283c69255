use Rattle.arbac_laws.proofs.FormRowLemmas.{untidy_form, untidy_moved, empty_impossible, three_before, three_kept, three_not_turned}
use Rattle.arbac_laws.proofs.rows.form_rows.Goals as goal

pub returns : goal.returns
returns _ = record { form = untidy_form; moved = untidy_moved; empty = empty_impossible; before = three_before; kept = three_kept; turned = three_not_turned }
