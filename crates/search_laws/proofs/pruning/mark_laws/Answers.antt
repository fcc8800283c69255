use Rattle.role_order.specs.Roles.{IsIn}
use Rattle.arbac_laws.specs.Needs.{Need}
use Rattle.search_laws.specs.Pruning.{HasHitWithin}
use Rattle.search_laws.proofs.MarkLemmas.{fewer_covering, hit_covered, lack_covered, some_covered, users_covered}
use Rattle.search_laws.proofs.pruning.mark_laws.Goals as goal

pub returns : goal.returns
returns c = record {
  hits = hit_covered;
  lacks = lack_covered;
  some_hits = λ set. some_covered (HasHitWithin set) (hit_covered set);
  some_lacks = λ role. some_covered (λ (need : Need). IsIn need.lacks role) (lack_covered role);
  users = users_covered;
  fewer = fewer_covering;
}
