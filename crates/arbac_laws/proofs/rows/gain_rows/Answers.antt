use Rattle.arbac_laws.proofs.GainRowLemmas.{adm_held, adm_not_held, adm_gives, c_gives_none, all_given, not_all_given}
use Rattle.arbac_laws.proofs.rows.gain_rows.Goals as goal

pub returns : goal.returns
returns _ = record { held = adm_held; not_held = adm_not_held; gives = adm_gives; not_given = c_gives_none; all = all_given; not_all = not_all_given }
