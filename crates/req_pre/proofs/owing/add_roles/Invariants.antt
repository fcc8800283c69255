use Rattle.std.proofs.Common.{◌≡◌, ◌++◌, ◌-◌, map}
use Rattle.role_order.specs.Reach.{count_up}
use Rattle.arbac_laws.specs.Obligations.{flat}
use Rattle.req_pre.specs.Views.{owed_of}
use Rattle.req_pre.specs.Owing.{by_role}
use Rattle.req_pre.proofs.owing.add_roles.Given as goal

abbrev pub invariant-loop-role : goal.invariant-loop-role
invariant-loop-role l =
    map owed_of l.out.items ++ flat (by_role l.origin l.order l.range l.users) (count_up l.role (l.count - l.role))
    ≡ map owed_of l.fn.out.items ++ flat (by_role l.origin l.order l.range l.users) (count_up 0 l.count)
