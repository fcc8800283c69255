use Rattle.std.proofs.Common.{[]}
use Rattle.search_laws.specs.Rows.{third_round}
use Rattle.search_laws.proofs.BeatLemmas.{never_beats}
use Rattle.search_laws.proofs.RowLemmas.{taken_beats_own, taken_beats_third, own_beats_not, earlier_beats, later_beats_not}
use Rattle.search_laws.proofs.RowLemmas.{third_unbeaten, none_not_unbeaten, known_not_unbeaten, sorted_unbeaten, unsorted_not_unbeaten, goal_not_left_out}
use Rattle.search_laws.proofs.rows.beat_rows.Goals as goal

pub returns : goal.returns
returns _ = record {
  own = taken_beats_own;
  third = taken_beats_third;
  back = own_beats_not;
  itself = never_beats third_round 1;
  earlier = earlier_beats;
  later = later_beats_not;
  one = third_unbeaten [] (λ h. h);
  none = none_not_unbeaten;
  known = known_not_unbeaten;
  sorted = sorted_unbeaten;
  unsorted = unsorted_not_unbeaten;
  left_out = goal_not_left_out;
}
