use Rattle.std.proofs.Common.{◌≡◌, ◌++◌, map, drop}
use Rattle.arbac_laws.specs.Obligations.{flat_places}
use Rattle.req_pre.specs.Views.{owed_of}
use Rattle.req_pre.specs.Owing.{by_revoke}
use Rattle.req_pre.proofs.owing.add_revokes.Given as goal

abbrev pub invariant-loop-place : goal.invariant-loop-place
invariant-loop-place l =
    map owed_of l.out.items ++ flat_places (by_revoke l.prepared l.users) l.place (drop l.place l.prepared.revoke)
    ≡ map owed_of l.fn.out.items ++ flat_places (by_revoke l.prepared l.users) 0 l.prepared.revoke
