use Rattle.arbac_laws.proofs.PairLemmas.{one_is_not_two, two_cover_no_one, third_covers, third_not_covering, lacks_not_covering, either_covers}
use Rattle.arbac_laws.proofs.PairLemmas.{lesser_not_covering, lacking_covered}
use Rattle.arbac_laws.proofs.rows.cover_rows.Goals as goal

pub returns : goal.returns
returns _ = record {
  two = one_is_not_two;
  one = two_cover_no_one;
  third = third_covers;
  third_first = third_not_covering;
  lacks = lacks_not_covering;
  hit = either_covers;
  lesser = lesser_not_covering;
  lacking = lacking_covered;
}
