use Rattle.arbac_laws.proofs.SameLemmas.{same_needs}
use Rattle.arbac_laws.proofs.NormalLemmas.{normal_both, none_impossible, form_is_normal, covered_alike, placed_met}
use Rattle.arbac_laws.proofs.FixedLemmas.{is_decided, both_possible, form_fixed}
use Rattle.arbac_laws.proofs.normal_forms.normal_laws.Goals as goal

pub returns : goal.returns
returns c = record {
  covers = normal_both;
  none = none_impossible;
  decided = is_decided;
  possible = both_possible;
  normal = form_is_normal;
  fixed = form_fixed;
  covered = covered_alike;
  placed = placed_met;
  same = same_needs;
}
