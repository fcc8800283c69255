use Rattle.std.proofs.Common.{◌≡◌, ◌++◌, ◌-◌, map}
use Rattle.role_order.specs.Reach.{count_up}
use Rattle.arbac_laws.specs.Obligations.{flat}
use Rattle.req_pre.specs.declared.owing.Origin.TheVariants.{Assign}
use Rattle.req_pre.specs.Views.{owed_of}
use Rattle.req_pre.specs.Owing.{by_roles}
use Rattle.req_pre.proofs.owing.add_conjuncts.Given as goal

abbrev pub invariant-loop-conjunct : goal.invariant-loop-conjunct
invariant-loop-conjunct l =
    map owed_of l.out.items ++ flat (λ conjunct. by_roles (Assign l.rule conjunct) l.order l.range l.users) (count_up l.conjunct (l.count - l.conjunct))
    ≡ map owed_of l.fn.out.items ++ flat (λ conjunct. by_roles (Assign l.rule conjunct) l.order l.range l.users) (count_up 0 l.count)
