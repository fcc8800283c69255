use Rattle.std.proofs.Common.{◌≡◌, ◌++◌, ◌-◌, map}
use Rattle.role_order.specs.Reach.{count_up}
use Rattle.arbac_laws.specs.Obligations.{flat}
use Rattle.req_pre.specs.Views.{owed_of}
use Rattle.req_pre.specs.Owing.{by_other}
use Rattle.req_pre.proofs.owing.add_others.Given as goal

abbrev pub invariant-loop-place : goal.invariant-loop-place
invariant-loop-place l =
    map owed_of l.out.items ++ flat (by_other l.origin l.role l.target) (count_up l.place (l.count - l.place))
    ≡ map owed_of l.fn.out.items ++ flat (by_other l.origin l.role l.target) (count_up 0 l.count)
