use Rattle.std.proofs.Common.{length}
use Rattle.shared_reqs.specs.Shared.{needs_shared}
use Rattle.shared_reqs.proofs.RowLemmas.{needs_long, found_covers}
use Rattle.shared_reqs.proofs.cover_rows.covers.Goals as goal

-- the matching decides
pub returns : goal.returns
returns c =
    let users = c.args.users.now in
    let others = c.args.others.now in
    found_covers (needs_shared users) (needs_shared others) (length users) (length others) c.in_ok-found.found c.is_some.result (needs_long users)
    (needs_long others) c.is_some.ensures c.in_ok-found.ensures.least c.in_ok-found.ensures.none
