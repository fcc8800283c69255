use Rattle.std.proofs.Common.{rules, ◌≡◌, ◌++◌}
use Rattle.arbac_laws.specs.Obligations.{obligations as all_of, flat_places}
use Rattle.req_pre.specs.Owing.{by_assign, by_revoke}
use Rattle.req_pre.proofs.OwingLemmas.{obligations_are}
use Rattle.req_pre.proofs.owing.obligations.Goals as goal

pub returns : goal.returns
returns c =
    let both : flat_places (by_assign c.args.prepared.now c.args.req.now) 0 c.args.prepared.now.assign
    ++ flat_places (by_revoke c.args.prepared.now c.args.req.now) 0 c.args.prepared.now.revoke ≡ all_of c.args.prepared.now c.args.req.now
    = obligations_are c.args.prepared.now c.args.req.now in
    search (rules, both)
