use Rattle.std.proofs.Common.{refl}
use Rattle.arbac_laws.proofs.RelevanceRowLemmas.{c_needed, lack_not_needed, c_assigned, adm_assigns_none, d_not_barred, adm_revoked, adm_revokes_none}
use Rattle.arbac_laws.proofs.RelevanceRowLemmas.{mix_closed, adm_not_closed, adm_part, mix_no_part, mix_least, adm_least, mix_not_least, none_relevant}
use Rattle.arbac_laws.proofs.RelevanceRowLemmas.{second_derived, c_not_derived}
use Rattle.arbac_laws.proofs.rows.relevance_rows.Goals as goal

pub returns : goal.returns
returns _ = record {
  need = c_needed;
  no_need = lack_not_needed;
  assign = c_assigned;
  no_assign = adm_assigns_none;
  apart = d_not_barred;
  revoke = adm_revoked;
  no_revoke = adm_revokes_none;
  closed = mix_closed;
  not_closed = adm_not_closed;
  part = adm_part;
  no_part = mix_no_part;
  least = mix_least;
  least_of_adm = adm_least;
  not_least = mix_not_least;
  rule = refl;
  no_rule = none_relevant;
  derived = second_derived;
  not_derived = c_not_derived;
}
