use Rattle.std.proofs.Common.{◌≡◌, ◌++◌, map, drop}
use Rattle.arbac_laws.specs.Obligations.{flat_places}
use Rattle.req_pre.specs.Views.{owed_of}
use Rattle.req_pre.specs.Owing.{by_target}
use Rattle.req_pre.proofs.owing.add_targets.Given as goal

abbrev pub invariant-loop-target : goal.invariant-loop-target
invariant-loop-target l =
    map owed_of l.out.items ++ flat_places (by_target l.origin l.role l.count) l.target (drop l.target l.users)
    ≡ map owed_of l.fn.out.items ++ flat_places (by_target l.origin l.role l.count) 0 l.users
