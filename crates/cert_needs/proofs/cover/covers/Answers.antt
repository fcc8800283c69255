use Rattle.cert_needs.proofs.CoverLemmas.{found_covers}
use Rattle.cert_needs.proofs.cover.covers.Goals as goal

-- the matching decides
pub returns : goal.returns
returns c =
    found_covers c.args.users.now c.args.others.now c.in_ok-found.found c.is_some.result c.is_some.ensures c.in_ok-found.ensures.least
    c.in_ok-found.ensures.none
